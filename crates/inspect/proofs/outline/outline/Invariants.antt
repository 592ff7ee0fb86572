use Rattle.std.proofs.Common.{◌-◌, length, string_bytes}
use Rattle.syntax.specs.Readers.{place_of}
use Rattle.inspect.proofs.Listing.{Listing}
use Rattle.inspect.proofs.outline.outline.Given as goal

abbrev pub invariant-loop-out : goal.invariant-loop-out
invariant-loop-out l = Listing l.text l.reader (string_bytes l.out)

abbrev pub decreases-loop-out : goal.decreases-loop-out
decreases-loop-out l = length l.text - place_of l.reader
