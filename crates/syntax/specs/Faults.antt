-- What a fault says: its layer, its number and its place. Assumes nothing.
--
-- token_number k     the number of a token fault
-- bracket_number k   the number of a bracket fault
-- layer_of f         the layer of a reader's fault
-- number_of f        its number
-- place_of f         the number of bytes before it
use Rattle.std.specs.Prelude.{ℕ}
use Rattle.syntax.specs.declared.fault.TokenFaultKind.{TokenFaultKind}
use Rattle.syntax.specs.declared.fault.TokenFaultKind.TheVariants as T
use Rattle.syntax.specs.declared.fault.BracketFaultKind.{BracketFaultKind}
use Rattle.syntax.specs.declared.fault.BracketFaultKind.TheVariants as B
use Rattle.syntax.specs.declared.fault.ReadFault.{ReadFault}
use Rattle.syntax.specs.declared.fault.ReadFault.TheVariants as R
use Rattle.syntax.specs.declared.fault.Layer.{Layer}
use Rattle.syntax.specs.declared.fault.Layer.TheVariants as L

abbrev pub token_number : TokenFaultKind → ℕ
token_number T.ForeignByte = 1
token_number (T.Unfinished k) = 2
token_number (T.TooLong k) = 3

abbrev pub bracket_number : BracketFaultKind → ℕ
bracket_number B.UnmatchedClose = 4
bracket_number B.UnclosedForm = 4
bracket_number B.TooDeep = 5

abbrev pub layer_of : ReadFault → Layer
layer_of (R.Token f) = L.Token
layer_of (R.Bracket f) = L.Bracket

abbrev pub number_of : ReadFault → ℕ
number_of (R.Token f) = token_number f.kind
number_of (R.Bracket f) = bracket_number f.kind

abbrev pub place_of : ReadFault → ℕ
place_of (R.Token f) = f.place
place_of (R.Bracket f) = f.place
