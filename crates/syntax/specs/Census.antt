-- How much a text holds. Assumes nothing.
--
-- tokens_of k ps    how many pieces of ps are tokens of kind k
-- tokens ps         how many are tokens
-- forms ps          how many open a form
-- items ps          how many begin an item, a token or a form
-- top_kinds d ps    the kinds of the items outside any form, where d forms are open before ps
-- first_of ks       the first of them, if there is one
-- last_of ks        the last of them, if there is one
-- deepest d ps      the most forms that are open at once, where d forms are open before ps
-- census_of ps      all of it, of the pieces of a whole text
-- census text       the census of a text, or its first fault
-- counted c k d     the census c and one lexeme more, of kind k, which is met while d forms are open
-- Room c            each number of c has room for one more
use Rattle.std.specs.Prelude.{ℕ, ◌+◌, ◌-◌, ◌^◌, ◌<◌, max, Bool, true, false, cond, List, [], ◌∷◌, ◌++◌, length, Some, None, Ok, count_by, Option, Result, ◌==◌}
use Rattle.std.specs.Option.{option_or}
use Rattle.syntax.specs.Reading.{Piece, then, reading}
use Rattle.syntax.specs.Tokens.{number_of}
use Rattle.syntax.specs.declared.census.Census.{Census}
use Rattle.syntax.specs.declared.fault.ReadFault.{ReadFault}
use Rattle.syntax.specs.declared.kind.ItemKind.{ItemKind}
use Rattle.syntax.specs.declared.kind.ItemKind.TheVariants as I
use Rattle.syntax.specs.declared.kind.Kind.{Kind}
use Rattle.syntax.specs.declared.kind.Kind.TheVariants as K
use Rattle.syntax.specs.declared.lexeme.LexemeKind.{LexemeKind}
use Rattle.syntax.specs.declared.lexeme.LexemeKind.TheVariants.{Open, Close, Token}

abbrev pub is_token_of : Kind → LexemeKind → Bool
is_token_of k Open = false
is_token_of k Close = false
is_token_of k (Token j) = number_of j == number_of k

abbrev pub is_token : LexemeKind → Bool
is_token Open = false
is_token Close = false
is_token (Token k) = true

abbrev pub is_open : LexemeKind → Bool
is_open Open = true
is_open Close = false
is_open (Token k) = false

abbrev pub begins_item : LexemeKind → Bool
begins_item Open = true
begins_item Close = false
begins_item (Token k) = true

-- the kind of the item that a lexeme begins, if it begins one
abbrev pub begun : LexemeKind → List ItemKind
begun Open = I.Form ∷ []
begun Close = []
begun (Token k) = I.Token k ∷ []

abbrev pub depth_after : ℕ → LexemeKind → ℕ
depth_after d Open = d + 1
depth_after d Close = d - 1
depth_after d (Token k) = d

abbrev pub tokens_of : Kind → List Piece → ℕ
tokens_of k ps = count_by (λ p. is_token_of k p.kind) ps

abbrev pub tokens : List Piece → ℕ
tokens ps = count_by (λ p. is_token p.kind) ps

abbrev pub forms : List Piece → ℕ
forms ps = count_by (λ p. is_open p.kind) ps

abbrev pub items : List Piece → ℕ
items ps = count_by (λ p. begins_item p.kind) ps

abbrev pub at_top : ℕ → LexemeKind → List ItemKind
at_top d k = cond (d == 0) (begun k) []

abbrev pub top_kinds : ℕ → List Piece → List ItemKind
top_kinds d [] = []
top_kinds d (p ∷ ps) = at_top d p.kind ++ top_kinds (depth_after d p.kind) ps

abbrev pub first_of : List ItemKind → Option ItemKind
first_of [] = None
first_of (k ∷ ks) = Some k

abbrev pub last_of : List ItemKind → Option ItemKind
last_of [] = None
last_of (k ∷ ks) = option_or (last_of ks) (Some k)

abbrev pub deepest : ℕ → List Piece → ℕ
deepest d [] = d
deepest d (p ∷ ps) = max d (deepest (depth_after d p.kind) ps)

abbrev pub census_of : List Piece → Census
census_of ps =
    record {
      line_ends = tokens_of K.LineEnd ps;
      blanks = tokens_of K.Blank ps;
      words = tokens_of K.Word ps;
      quoted = tokens_of K.Quoted ps;
      comments = tokens_of K.Comment ps;
      tokens = tokens ps;
      forms = forms ps;
      items = items ps;
      top_items = length (top_kinds 0 ps);
      first = first_of (top_kinds 0 ps);
      last = last_of (top_kinds 0 ps);
      nesting = deepest 0 ps;
    }

abbrev pub census : List ℕ → Result Census ReadFault
census text = then (reading text) (λ ps. Ok (census_of ps))

abbrev pub nothing : Census
nothing = census_of []

abbrev one : Bool → ℕ
one b = cond b 1 0

abbrev pub counted : Census → LexemeKind → ℕ → Census
counted c k d =
    record {
      line_ends = c.line_ends + one (is_token_of K.LineEnd k);
      blanks = c.blanks + one (is_token_of K.Blank k);
      words = c.words + one (is_token_of K.Word k);
      quoted = c.quoted + one (is_token_of K.Quoted k);
      comments = c.comments + one (is_token_of K.Comment k);
      tokens = c.tokens + one (is_token k);
      forms = c.forms + one (is_open k);
      items = c.items + one (begins_item k);
      top_items = c.top_items + length (at_top d k);
      first = option_or c.first (first_of (at_top d k));
      last = option_or (last_of (at_top d k)) c.last;
      nesting = cond (is_open k) (max c.nesting (d + 1)) c.nesting;
    }

pub record Room (c : Census) : Type 0 where
  pub line_ends : c.line_ends + 1 < 2 ^ 64
  pub blanks : c.blanks + 1 < 2 ^ 64
  pub words : c.words + 1 < 2 ^ 64
  pub quoted : c.quoted + 1 < 2 ^ 64
  pub comments : c.comments + 1 < 2 ^ 64
  pub tokens : c.tokens + 1 < 2 ^ 64
  pub forms : c.forms + 1 < 2 ^ 64
  pub items : c.items + 1 < 2 ^ 64
  pub top_items : c.top_items + 1 < 2 ^ 64
