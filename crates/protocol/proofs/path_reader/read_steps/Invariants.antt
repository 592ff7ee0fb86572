use Rattle.std.proofs.Common.{◌≡◌, ◌-◌, ◌<◌, ◌≤◌, length}
use Rattle.std.specs.List.{AllByRecursion}
use Rattle.notation.specs.Numbers.{number_bound}
use Rattle.protocol.specs.Paths.{steps_of}
use Rattle.protocol.proofs.Pathways.{Reading}
use Rattle.protocol.proofs.path_reader.read_steps.Given as goal

abbrev pub invariant-loop-step : goal.invariant-loop-step
invariant-loop-step l = record {
  within : l.path.length ≤ 16;
  counted : length (steps_of l.path) ≡ l.path.length;
  reading : Reading l.inside (steps_of l.path) l.left;
  small : AllByRecursion (λ s. s < number_bound) (steps_of l.path);
}

abbrev pub decreases-loop-step : goal.decreases-loop-step
decreases-loop-step l = 16 - l.path.length
