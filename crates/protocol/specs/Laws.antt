-- Laws of the script language. Assumes nothing.
use Rattle.std.specs.Prelude.{◌≡◌, true, [], ◌∷◌, Some, codes}
use Rattle.protocol.specs.declared.answer.Answer.TheVariants as A
use Rattle.protocol.specs.declared.command.Letter.TheVariants as L
use Rattle.protocol.specs.declared.refusal.Refusal.TheVariants as R
use Rattle.protocol.specs.Answers.{answer_line, answer_bytes}
use Rattle.protocol.specs.Commands.{Request, load, splice, print, undo, same, Small, written}

-- requests that are written alike are the same
abbrev pub ALineHasAtMostOneCommand : Type 0
ALineHasAtMostOneCommand = (r s : Request) → Small r → Small s → written r ≡ written s → r ≡ s

-- the lines and answers of the example, from the definitions
abbrev pub TheExampleIsWrittenSo : Type 0
TheExampleIsWrittenSo =
    (written (load 0 (codes "(a b)")) ≡ codes "(L 0 (a b))")
    × (written (splice 0 (0 ∷ []) 2 1 (codes "c")) ≡ codes "(S 0 (0) 2 1 c)")
    × (written (print 0) ≡ codes "(P 0)")
    × (written (undo 0) ≡ codes "(U 0)")
    × (written (same 0 1) ≡ codes "(E 0 1)")
    × (answer_line true 76 (3 ∷ 4 ∷ 1 ∷ 0 ∷ 0 ∷ 0 ∷ []) ≡ codes "(ok L 3 4 1 0 0 0)\n")
    × (answer_bytes A.Printed (codes "(a c)") ≡ codes "(ok P 5)\n(a c)\n")
    × (answer_bytes (A.Refused (Some L.Same) (R.NoHandle 1)) [] ≡ codes "(no E 2)\n")
