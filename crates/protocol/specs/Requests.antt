-- What a command asks. Assumes nothing.
--
-- request_of c       the request of a command
-- Whole c            a command's path has no more steps than it has places for
-- Asks l args r      what the letter l with the arguments args asks: that of the command r, or nothing
-- Written line r     the line is what the command r is written as, or no command is written so
use Rattle.std.specs.Prelude.{◌≡◌, ℕ, ◌≤◌, List, Some, None, Option, ◌≢◌}
use Rattle.protocol.specs.declared.command.Command.{Command}
use Rattle.protocol.specs.declared.command.Command.TheVariants as C
use Rattle.protocol.specs.Commands.{Request, load, splice, fork, undo, release, print, same, Small, letter, arguments, written, path_limit}
use Rattle.protocol.specs.Paths.{steps_of}

abbrev pub request_of : Command → Request
request_of (C.Load h t) = load h t.now
request_of (C.Splice h p k n t) = splice h (steps_of p) k n t.now
request_of (C.Fork a b) = fork a b
request_of (C.Undo h) = undo h
request_of (C.Release h) = release h
request_of (C.Print h) = print h
request_of (C.Same a b) = same a b

abbrev pub Whole : Command → Type 0
Whole (C.Load h t) = Unit {0}
Whole (C.Splice h p k n t) = p.length ≤ path_limit
Whole (C.Fork a b) = Unit {0}
Whole (C.Undo h) = Unit {0}
Whole (C.Release h) = Unit {0}
Whole (C.Print h) = Unit {0}
Whole (C.Same a b) = Unit {0}

abbrev pub Asks : ℕ → List ℕ → Option Command → Type 0
Asks l args (Some c) = (letter (request_of c) ≡ l) × (arguments (request_of c) ≡ args) × Whole c
Asks l args None = (r : Request) → Small r → letter r ≡ l → arguments r ≢ args

abbrev pub Written : List ℕ → Option Command → Type 0
Written line (Some c) = (written (request_of c) ≡ line) × Whole c
Written line None = (r : Request) → Small r → written r ≢ line
