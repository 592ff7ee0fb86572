-- The words in which kinds and faults are told to people. Assumes nothing.
--
-- kind_words k            what a token of kind k is called
-- item_words i            the same of an item
-- token_fault_words k     what is wrong with a token
-- bracket_fault_words k   what is wrong with the brackets
-- layer_words l           what a fault of the layer l is called
-- reason_words f          what is wrong, of a reader's fault
-- fault_words f           the same, with layer, number and place
-- position_words p        line and column
use Rattle.std.specs.Prelude.{ℕ, List, ◌++◌, codes, decimal}
use Rattle.syntax.specs.Faults.{layer_of, number_of, place_of}
use Rattle.syntax.specs.declared.fault.BracketFaultKind.{BracketFaultKind}
use Rattle.syntax.specs.declared.fault.BracketFaultKind.TheVariants.{UnmatchedClose, UnclosedForm, TooDeep}
use Rattle.syntax.specs.declared.fault.Layer.{Layer}
use Rattle.syntax.specs.declared.fault.Layer.TheVariants as L
use Rattle.syntax.specs.declared.fault.ReadFault.{ReadFault}
use Rattle.syntax.specs.declared.fault.ReadFault.TheVariants as R
use Rattle.syntax.specs.declared.fault.TokenFaultKind.{TokenFaultKind}
use Rattle.syntax.specs.declared.fault.TokenFaultKind.TheVariants.{ForeignByte, Unfinished, TooLong}
use Rattle.syntax.specs.declared.kind.ItemKind.{ItemKind}
use Rattle.syntax.specs.declared.kind.ItemKind.TheVariants as I
use Rattle.syntax.specs.declared.kind.Kind.{Kind}
use Rattle.syntax.specs.declared.kind.Kind.TheVariants as K
use Rattle.syntax.specs.declared.position.Position.{Position}

abbrev pub kind_words : Kind → List ℕ
kind_words K.LineEnd = codes "line end"
kind_words K.Blank = codes "blank"
kind_words K.Word = codes "word"
kind_words K.Quoted = codes "quoted text"
kind_words K.Comment = codes "comment"

abbrev pub item_words : ItemKind → List ℕ
item_words (I.Token k) = kind_words k
item_words I.Form = codes "form"

abbrev pub token_fault_words : TokenFaultKind → List ℕ
token_fault_words ForeignByte = codes "byte is not allowed in a text"
token_fault_words (Unfinished k) = kind_words k ++ codes " is not finished"
token_fault_words (TooLong k) = kind_words k ++ codes " is longer than 32 bytes"

abbrev pub bracket_fault_words : BracketFaultKind → List ℕ
bracket_fault_words UnmatchedClose = codes "closing bracket has no open form"
bracket_fault_words UnclosedForm = codes "form is not closed"
bracket_fault_words TooDeep = codes "more than 16 forms are open"

abbrev pub layer_words : Layer → List ℕ
layer_words L.Token = codes "token fault"
layer_words L.Bracket = codes "bracket fault"

abbrev pub reason_words : ReadFault → List ℕ
reason_words (R.Token f) = token_fault_words f.kind
reason_words (R.Bracket f) = bracket_fault_words f.kind

abbrev pub fault_words : ReadFault → List ℕ
fault_words f =
    reason_words f ++ (codes " (" ++ (layer_words (layer_of f) ++ (codes " " ++ (decimal (number_of f) ++ (codes " at byte " ++ (decimal (place_of f) ++ codes ")"))))))

abbrev pub position_words : Position → List ℕ
position_words p = decimal p.line ++ (codes ":" ++ decimal p.column)
