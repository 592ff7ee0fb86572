-- What is promised of every text, and worked examples. Assumes nothing.
use Rattle.std.specs.Prelude.{◌≡◌, ℕ, List, [], ◌∷◌, ◌++◌, Some, None, Ok, Err, codes}
use Rattle.std.specs.List.{flat_map}
use Rattle.syntax.specs.Census.{nothing, census}
use Rattle.syntax.specs.Positions.{position}
use Rattle.syntax.specs.Reading.{Piece, reading}
use Rattle.syntax.specs.declared.fault.BracketFaultKind.TheVariants.{UnmatchedClose}
use Rattle.syntax.specs.declared.fault.ReadFault.TheVariants.{Bracket}
use Rattle.syntax.specs.declared.kind.ItemKind.TheVariants.{Token, Form}
use Rattle.syntax.specs.declared.kind.Kind.TheVariants.{LineEnd}

-- the pieces that are read, joined, are the text
abbrev pub PiecesJoinedAreTheText : Type 0
PiecesJoinedAreTheText = (text : List ℕ) (ps : List Piece) → reading text ≡ Ok ps → flat_map (λ p. p.bytes) ps ≡ text

-- what some short texts hold, and where places are in them
pub record Examples : Type 0 where
  pub empty_text : census [] ≡ Ok nothing
  pub empty_form : census (codes "()") ≡ Ok (record { line_ends = 0; blanks = 0; words = 0; quoted = 0; comments = 0; tokens = 0; forms = 1; items = 1; top_items = 1; first = Some Form; last = Some Form; nesting = 1 })
  pub one_line : census (codes "(a \"b\")" ++ 10 ∷ []) ≡ Ok (record { line_ends = 1; blanks = 1; words = 1; quoted = 1; comments = 0; tokens = 4; forms = 1; items = 5; top_items = 2; first = Some Form; last = Some (Token LineEnd); nesting = 1 })
  pub stray_close : census (codes "a)") ≡ Err (Bracket (record { kind = UnmatchedClose; place = 1 }))
  pub inside : position (codes "a" ++ 10 ∷ codes "bc") 4 ≡ Some (record { line = 2; column = 3 })
  pub past_the_end : position (codes "a" ++ 10 ∷ codes "bc") 5 ≡ None
