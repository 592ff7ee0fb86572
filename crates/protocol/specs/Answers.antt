-- Answers as the script language writes them. Assumes nothing.
--
-- answer_line b l ns the line of an answer: accepted or not, the letter, and numbers
-- head a t, body a t that line for an answer, where the text t is printed, and what follows it
-- answer_bytes a t   both
-- Answered bs before r after   what writing the bytes bs to the start of a buffer does: the answer r, and the buffer after
use Rattle.std.specs.Prelude.{◌≡◌, ℕ, ◌<◌, ◌≤◌, Bool, true, false, cond, List, [], ◌∷◌, ◌++◌, length, drop, Some, None, Ok, Err, codes, Option, Result, nat_lt}
use Rattle.protocol.specs.declared.answer.Answer.{Answer}
use Rattle.protocol.specs.declared.answer.Answer.TheVariants as A
use Rattle.protocol.specs.declared.command.Letter.{Letter}
use Rattle.protocol.specs.declared.refusal.Refusal.{Refusal}
use Rattle.protocol.specs.declared.refusal.Refusal.TheVariants as R
use Rattle.protocol.specs.declared.report.Report.{Report}
use Rattle.notation.specs.Numbers.{numbered}
use Rattle.protocol.specs.Letters.{letter_byte}
use Rattle.protocol.specs.Refusals.{refusal_number, besides}

abbrev pub status : Bool → List ℕ
status true = codes "(ok "
status false = codes "(no "

abbrev pub answer_line : Bool → ℕ → List ℕ → List ℕ
answer_line accepted letter ns = status accepted ++ (letter ∷ (numbered ns ++ codes ")\n"))

-- 63 is a question mark
abbrev pub known_letter : Option Letter → ℕ
known_letter (Some l) = letter_byte l
known_letter None = 63

abbrev pub refused_letter : Option Letter → Refusal → ℕ
refused_letter l f = cond (nat_lt 12 (refusal_number f)) 63 (known_letter l)

abbrev pub six : Report → List ℕ
six r = r.taken.tokens ∷ r.taken.links ∷ r.taken.versions ∷ r.freed.tokens ∷ r.freed.links ∷ r.freed.versions ∷ []

abbrev pub head : Answer → List ℕ → List ℕ
head (A.Loaded r) t = answer_line true 76 (six r)
head (A.Spliced r) t = answer_line true 83 (six r)
head A.Forked t = answer_line true 70 []
head (A.Undone r) t = answer_line true 85 (six r)
head (A.Released r) t = answer_line true 82 (six r)
head A.Printed t = answer_line true 80 (length t ∷ [])
head (A.Compared b) t = answer_line true 69 (cond b 1 0 ∷ [])
head (A.Refused l f) t = answer_line false (refused_letter l f) (refusal_number f ∷ besides f)

abbrev pub body : Answer → List ℕ → List ℕ
body (A.Loaded r) t = []
body (A.Spliced r) t = []
body A.Forked t = []
body (A.Undone r) t = []
body (A.Released r) t = []
body A.Printed t = t ++ codes "\n"
body (A.Compared b) t = []
body (A.Refused l f) t = []

abbrev pub answer_bytes : Answer → List ℕ → List ℕ
answer_bytes a t = head a t ++ body a t

abbrev pub Answered : List ℕ → List ℕ → Result ℕ Refusal → List ℕ → Type 0
Answered bs before (Ok n) after = (n ≡ length bs) × (n ≤ length before) × (after ≡ bs ++ drop n before)
Answered bs before (Err f) after = (f ≡ R.BufferTooShort (length bs)) × (length before < length bs) × (after ≡ before)
