-- Steps of the reader of one lexeme, from a place in the text to the bytes from there on. Assumes nothing.
use Rattle.std.proofs.Common.{◌≡◌, ℕ, suc, ◌+◌, ◌<◌, ◌≤◌, List, [], ◌∷◌, length, get_or, drop, sym, ap, ◌∙◌, one-add}
use Rattle.std.proofs.lemmas.List.{drop-drop, at_drop_more, at_drop_all}
use Rattle.syntax.specs.Lexemes.{run, ended, delimited}
use Rattle.syntax.specs.declared.kind.Kind.{Kind}

-- a delimited token of which n bytes are read is settled by what stands n bytes on
pub delimited_at : (k : Kind) (p n : ℕ) (text : List ℕ) → n ≡ run k (drop (p + 1) text) → delimited k p (drop p text) ≡ ended k p (1 + n) (drop (p + (1 + n)) text)
delimited_at k p n text e =
    ap (λ m. ended k p m (drop m (drop p text))) (ap (λ bs. suc (run k bs)) (drop-drop 1 p text) ∙ ap suc (sym e) ∙ sym (one-add n))
    ∙ ap (ended k p (1 + n)) (drop-drop (1 + n) p text)

pub delimited_more : (k : Kind) (p n : ℕ) (text : List ℕ) → n ≡ run k (drop (p + 1) text) → p + (1 + n) < length text → delimited k p (drop p text) ≡ ended k p (1 + n) (get_or text (p + (1 + n)) 0 ∷ drop (p + (1 + n) + 1) text)
delimited_more k p n text e h = delimited_at k p n text e ∙ at_drop_more (ended k p (1 + n)) text (p + (1 + n)) 0 h

pub delimited_all : (k : Kind) (p n : ℕ) (text : List ℕ) → n ≡ run k (drop (p + 1) text) → length text ≤ p + (1 + n) → delimited k p (drop p text) ≡ ended k p (1 + n) []
delimited_all k p n text e h = delimited_at k p n text e ∙ at_drop_all (ended k p (1 + n)) text (p + (1 + n)) h
