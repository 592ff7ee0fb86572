-- Computed from the definitions.
use Rattle.std.proofs.Common.{refl}
use Rattle.syntax.specs.Reading.{pieces}
use Rattle.syntax.proofs.theorems.short_texts_hold_what_they_should.Goals as goal

pub returns : goal.returns
unfolding pieces
returns c = record { empty_text = refl; empty_form = refl; one_line = refl; stray_close = refl; inside = refl; past_the_end = refl }
