-- The line that is printed for a file, from its name and its bytes. Assumes nothing.
--
-- well_formed text      the text keeps the limit and has no fault
-- holding_words h       what a text holds
-- holds_words b l c     the same, of a text of b bytes and l lines whose census is c
-- read_words text r     what is said behind the name where reading the text gave r
-- report_line n text    the line for the file of name n that holds the text, without its line end
-- outcome_words n o     what is said of the file of name n where o came of reading it; nothing is known of the words of a system's error
use Rattle.std.specs.Prelude.{ℕ, Bool, cond, ◌&&◌, List, ◌++◌, length, is_ok, Some, None, Ok, Err, codes, decimal, Option, Result, nat_le}
use Rattle.syntax.specs.Census.{census}
use Rattle.syntax.specs.Faults.{place_of}
use Rattle.syntax.specs.Limits.{text_limit}
use Rattle.syntax.specs.Messages.{fault_words, position_words}
use Rattle.syntax.specs.Positions.{position_at, lines}
use Rattle.syntax.specs.declared.census.Census.{Census}
use Rattle.syntax.specs.declared.fault.ReadFault.{ReadFault}
use Rattle.inspect.specs.declared.report.Complaint.{Complaint}
use Rattle.inspect.specs.declared.report.Complaint.TheVariants as X
use Rattle.inspect.specs.declared.report.Holding.{Holding}

abbrev pub well_formed : List ℕ → Bool
well_formed text = nat_le (length text) text_limit && is_ok (census text)

abbrev pub holding_words : Holding → List ℕ
holding_words h =
    decimal h.bytes ++ (codes " bytes, " ++ (decimal h.lines ++ (codes " lines, " ++ (decimal h.tokens ++ (codes " tokens, " ++ (decimal h.forms ++ (codes " forms, " ++ (decimal h.items ++ (codes " items, nesting " ++ decimal h.nesting)))))))))

abbrev pub holds_words : ℕ → ℕ → Census → List ℕ
holds_words b l c =
    holding_words (record { bytes = b; lines = l; tokens = c.tokens; forms = c.forms; items = c.items; nesting = c.nesting })

abbrev pub read_words : List ℕ → Result Census ReadFault → List ℕ
read_words text (Ok c) = codes ": ok: " ++ holds_words (length text) (lines text) c
read_words text (Err f) = codes ":" ++ (position_words (position_at text (place_of f)) ++ (codes ": error: " ++ fault_words f))

abbrev pub report_line : List ℕ → List ℕ → List ℕ
report_line name text =
    name ++ cond (nat_le (length text) text_limit) (read_words text (census text)) (codes ": error: file is longer than 32000 bytes")

abbrev pub outcome_words : List ℕ → Result Holding Complaint → Option (List ℕ)
outcome_words name (Ok h) = Some (name ++ (codes ": ok: " ++ holding_words h))
outcome_words name (Err (X.Faulty p f)) = Some (name ++ (codes ":" ++ (position_words p ++ (codes ": error: " ++ fault_words f))))
outcome_words name (Err X.TooLong) = Some (name ++ codes ": error: file is longer than 32000 bytes")
outcome_words name (Err (X.Unreadable e)) = None
