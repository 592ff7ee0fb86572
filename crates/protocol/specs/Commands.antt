-- The script language: what a command asks, and the line that asks it. Assumes nothing.
--
-- Request            what a command asks: handles, a path, numbers and texts, as values
-- Small r            its numbers are below the bound, and its path has at most 16 steps
-- letter r           the byte that names the call
-- bracketed p rest   a path in brackets, and rest
-- behind vs rest     further steps of a path, each after a space, the close byte, and rest
-- arguments r        what stands between the space after the letter and the last byte
-- written r          the line, without its line end
use Rattle.std.specs.Prelude.{ℕ, ◌<◌, ◌≤◌, List, [], ◌∷◌, ◌++◌, length, decimal}
use Rattle.std.specs.List.{AllByRecursion}
use Rattle.notation.specs.Numbers.{number_bound, spaced}

pub data Request : Type 0 where
  load : ℕ → List ℕ → Request
  splice : ℕ → List ℕ → ℕ → ℕ → List ℕ → Request
  fork : ℕ → ℕ → Request
  undo : ℕ → Request
  release : ℕ → Request
  print : ℕ → Request
  same : ℕ → ℕ → Request

abbrev pub path_limit : ℕ
path_limit = 16

abbrev pub Steps : List ℕ → Type 0
Steps p = (length p ≤ path_limit) × AllByRecursion (λ s. s < number_bound) p

abbrev pub Small : Request → Type 0
Small (load h t) = h < number_bound
Small (splice h p k n t) = (h < number_bound) × Steps p × (k < number_bound) × (n < number_bound)
Small (fork a b) = (a < number_bound) × (b < number_bound)
Small (undo h) = h < number_bound
Small (release h) = h < number_bound
Small (print h) = h < number_bound
Small (same a b) = (a < number_bound) × (b < number_bound)

-- L, S, F, U, R, P and E
abbrev pub letter : Request → ℕ
letter (load h t) = 76
letter (splice h p k n t) = 83
letter (fork a b) = 70
letter (undo h) = 85
letter (release h) = 82
letter (print h) = 80
letter (same a b) = 69

-- 32 is a space, 40 an open byte and 41 a close byte
abbrev pub behind : List ℕ → List ℕ → List ℕ
behind [] rest = 41 ∷ rest
behind (v ∷ vs) rest = 32 ∷ (decimal v ++ behind vs rest)

abbrev pub bracketed : List ℕ → List ℕ → List ℕ
bracketed [] rest = 40 ∷ 41 ∷ rest
bracketed (v ∷ vs) rest = 40 ∷ (decimal v ++ behind vs rest)

abbrev pub arguments : Request → List ℕ
arguments (load h t) = spaced h t
arguments (splice h p k n t) = spaced h (bracketed p (32 ∷ spaced k (spaced n t)))
arguments (fork a b) = spaced a (decimal b)
arguments (undo h) = decimal h
arguments (release h) = decimal h
arguments (print h) = decimal h
arguments (same a b) = spaced a (decimal b)

abbrev pub written : Request → List ℕ
written r = 40 ∷ letter r ∷ 32 ∷ (arguments r ++ (41 ∷ []))
