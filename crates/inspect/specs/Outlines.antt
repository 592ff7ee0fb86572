-- The outline of a text: a line for each item, indented by the forms around it. Assumes nothing.
--
-- shown_byte b        a byte of a token, as it stands between quotes: line end, tab, quote and backslash by two signs
-- shown bs            the same of all the bytes
-- indent d            two spaces for each of d forms
-- head d k p n        the front of the line for an item of kind k and n bytes at place p, inside d forms
-- token_line d k p bs the line for a token with the bytes bs
-- form_line d p n     the line for a form
-- tree_lines d p t    the lines for the items of t, which begins at place p, inside d forms
-- outlined text       the outline of a text, or its first fault
-- until n ps          the bytes of ps up to where n forms that are open have been closed
-- piece_line d p q qs the line for the item that the piece q begins, at place p, inside d forms, before the pieces qs
-- outline_fault_words e   why a text has no outline, in words
-- Told e P            P of the fault, where e tells one and not that memory is short
use Rattle.std.specs.Prelude.{◌≡◌, ℕ, zero, suc, ◌+◌, cond, List, [], ◌∷◌, ◌++◌, length, Ok, Err, string_bytes, codes, decimal, Result, String, ◌==◌}
use Rattle.std.specs.List.{flat_map}
use Rattle.std.proofs.Math.Utf8.{encode}
use Rattle.std.specs.declared.alloc.Global.{Global}
use Rattle.syntax.specs.Messages.{item_words, fault_words}
use Rattle.syntax.specs.Census.{depth_after}
use Rattle.syntax.specs.Reading.{Piece, then}
use Rattle.syntax.specs.declared.fault.ReadFault.{ReadFault}
use Rattle.syntax.specs.declared.kind.ItemKind.{ItemKind}
use Rattle.syntax.specs.declared.kind.ItemKind.TheVariants as I
use Rattle.syntax.specs.declared.kind.Kind.{Kind}
use Rattle.syntax.specs.declared.lexeme.LexemeKind.{LexemeKind}
use Rattle.syntax.specs.declared.lexeme.LexemeKind.TheVariants as L
use Rattle.tree.specs.Reading.{tree_read}
use Rattle.tree.specs.Trees.{Tree, nil, token, form, width}
use Rattle.inspect.specs.declared.outline.OutlineFault.{OutlineFault}
use Rattle.inspect.specs.declared.outline.OutlineFault.TheVariants.{Memory, Read}

abbrev pub shown_byte : ℕ → List ℕ
shown_byte b =
    cond (b == 0x0A) (codes "\\n") (cond (b == 0x09) (codes "\\t") (cond (b == 0x22) (codes "\\\"") (cond (b == 0x5C) (codes "\\\\") (encode b))))

abbrev pub shown : List ℕ → List ℕ
shown bs = flat_map shown_byte bs

abbrev pub indent : ℕ → List ℕ
indent zero = []
indent (suc d) = codes "  " ++ indent d

abbrev pub head : ℕ → ItemKind → ℕ → ℕ → List ℕ
head d k p n = indent d ++ (item_words k ++ (codes " " ++ (decimal p ++ (codes " " ++ decimal n))))

abbrev pub token_line : ℕ → Kind → ℕ → List ℕ → List ℕ
token_line d k p bs = head d (I.Token k) p (length bs) ++ (codes " \"" ++ (shown bs ++ codes "\"\n"))

abbrev pub form_line : ℕ → ℕ → ℕ → List ℕ
form_line d p n = head d I.Form p n ++ codes "\n"

abbrev pub tree_lines : ℕ → ℕ → Tree → List ℕ
tree_lines d p nil = []
tree_lines d p (token k bs rest) = token_line d k p bs ++ tree_lines d (p + length bs) rest
tree_lines d p (form i rest) = form_line d p (width i + 2) ++ (tree_lines (d + 1) (p + 1) i ++ tree_lines d (p + (width i + 2)) rest)

abbrev pub outlined : List ℕ → Result (List ℕ) ReadFault
outlined text = then (tree_read text) (λ t. Ok (tree_lines 0 0 t))

abbrev pub until : ℕ → List Piece → ℕ
until zero ps = 0
until (suc n) [] = 0
until (suc n) (p ∷ ps) = length p.bytes + until (depth_after (suc n) p.kind) ps

abbrev pub line_by : LexemeKind → ℕ → ℕ → List ℕ → List Piece → List ℕ
line_by L.Open d p bs qs = form_line d p (length bs + until 1 qs)
line_by L.Close d p bs qs = []
line_by (L.Token k) d p bs qs = token_line d k p bs

abbrev pub piece_line : ℕ → ℕ → Piece → List Piece → List ℕ
piece_line d p q qs = line_by q.kind d p q.bytes qs

abbrev pub outline_fault_words : OutlineFault → List ℕ
outline_fault_words Memory = codes "memory is short"
outline_fault_words (Read f) = fault_words f

abbrev pub Told : OutlineFault → (ReadFault → Type 0) → Type 0
Told Memory P = Unit {0}
Told (Read f) P = P f

abbrev pub Outlines : List ℕ → Result (String Global) OutlineFault → Type 0
Outlines text (Ok s) = outlined text ≡ Ok (string_bytes s)
Outlines text (Err e) = Told e (λ f. outlined text ≡ Err f)
