-- The tree of an accepted text. Assumes nothing.
--
-- Stack            the chain at hand, and behind it what follows the form that it is in, and so on outwards
-- built ps         the chains that the pieces ps make, from the last piece to the first
-- tree_of ps       the chain that they make
-- tree_read text   the tree of a text, or its first fault
-- flat t           the pieces of a tree
use Rattle.std.specs.Prelude.{ℕ, List, [], ◌∷◌, ◌++◌, Ok, Result}
use Rattle.syntax.specs.Reading.{Piece, then, reading}
use Rattle.syntax.specs.declared.fault.ReadFault.{ReadFault}
use Rattle.syntax.specs.declared.lexeme.LexemeKind.{LexemeKind}
use Rattle.syntax.specs.declared.lexeme.LexemeKind.TheVariants as L
use Rattle.tree.specs.Trees.{Tree, nil, token, form, open_byte, close_byte}

pub record Stack : Type 0 where
  pub chain : Tree
  pub behind : List Tree

-- an open byte makes a form of the chain at hand, before the chain behind it
abbrev pub closed_over : Tree → List Tree → Stack
closed_over t [] = record { chain = t; behind = [] }
closed_over t (u ∷ us) = record { chain = form t u; behind = us }

abbrev pub put : LexemeKind → List ℕ → Stack → Stack
put L.Open bs s = closed_over s.chain s.behind
put L.Close bs s = record { chain = nil; behind = s.chain ∷ s.behind }
put (L.Token k) bs s = record { chain = token k bs s.chain; behind = s.behind }

abbrev pub built : List Piece → Stack
built [] = record { chain = nil; behind = [] }
built (p ∷ ps) = put p.kind p.bytes (built ps)

abbrev pub tree_of : List Piece → Tree
tree_of ps = (built ps).chain

abbrev pub tree_read : List ℕ → Result Tree ReadFault
tree_read text = then (reading text) (λ ps. Ok (tree_of ps))

abbrev pub flat : Tree → List Piece
flat nil = []
flat (token k bs rest) = record { kind = L.Token k; bytes = bs } ∷ flat rest
flat (form i rest) = record { kind = L.Open; bytes = open_byte ∷ [] } ∷ (flat i ++ record { kind = L.Close; bytes = close_byte ∷ [] } ∷ flat rest)
