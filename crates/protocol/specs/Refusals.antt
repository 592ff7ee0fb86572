-- The numbers of pools and refusals, and what an answer tells besides. Assumes nothing.
use Rattle.std.specs.Prelude.{ℕ, List, [], ◌∷◌}
use Rattle.syntax.specs.Faults.{number_of, place_of}
use Rattle.protocol.specs.declared.refusal.PoolName.{PoolName}
use Rattle.protocol.specs.declared.refusal.PoolName.TheVariants as N
use Rattle.protocol.specs.declared.refusal.Refusal.{Refusal}
use Rattle.protocol.specs.declared.refusal.Refusal.TheVariants as R

abbrev pub pool_number : PoolName → ℕ
pool_number N.Tokens = 1
pool_number N.Links = 2
pool_number N.Versions = 3

abbrev pub refusal_number : Refusal → ℕ
refusal_number (R.Misfit p) = 1
refusal_number (R.NoHandle h) = 2
refusal_number (R.HandleHeld h) = 3
refusal_number (R.TextTooLong n) = 4
refusal_number (R.Fault f) = 5
refusal_number (R.NoPath n) = 6
refusal_number (R.RunTogether n) = 7
refusal_number (R.TooDeep n) = 8
refusal_number (R.VersionTooLong n) = 9
refusal_number (R.TooFewCells p n f) = 10
refusal_number (R.NothingToUndo h) = 11
refusal_number (R.BufferTooShort n) = 12
refusal_number R.NoCommand = 13
refusal_number R.LineTooLong = 14

-- kind and place of a fault
abbrev pub besides : Refusal → List ℕ
besides (R.Misfit p) = []
besides (R.NoHandle h) = []
besides (R.HandleHeld h) = []
besides (R.TextTooLong n) = []
besides (R.Fault f) = number_of f ∷ place_of f ∷ []
besides (R.NoPath n) = []
besides (R.RunTogether n) = []
besides (R.TooDeep n) = []
besides (R.VersionTooLong n) = []
besides (R.TooFewCells p n f) = []
besides (R.NothingToUndo h) = []
besides (R.BufferTooShort n) = []
besides R.NoCommand = []
besides R.LineTooLong = []
