-- The limits of a text. Assumes nothing.
--
-- text_limit      the most bytes of a text
-- token_limit     the most bytes of a token
-- nesting_limit   the most forms that are open at once
use Rattle.std.specs.Prelude.{ℕ}

abbrev pub text_limit : ℕ
text_limit = 32000

abbrev pub token_limit : ℕ
token_limit = 32

abbrev pub nesting_limit : ℕ
nesting_limit = 16
