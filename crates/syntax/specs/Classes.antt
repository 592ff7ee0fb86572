-- The class of each byte value. Assumes nothing.
--
-- class b   the class of the byte b
use Rattle.std.specs.Prelude.{ℕ, cond, ◌&&◌, ◌||◌, ◌==◌, nat_le}
use Rattle.syntax.specs.declared.class.Class.{Class}
use Rattle.syntax.specs.declared.class.Class.TheVariants.{Open, Close, LineEnd, Blank, Comment, Quote, Word, Foreign}

abbrev pub class : ℕ → Class
class b =
    cond (b == 0x28) Open
    (cond (b == 0x29) Close
    (cond (b == 0x0A) LineEnd
    (cond (b == 0x20 || b == 0x09) Blank
    (cond (b == 0x3B) Comment
    (cond (b == 0x22) Quote
    (cond (nat_le 0x21 b && nat_le b 0x7E) Word
    Foreign))))))
