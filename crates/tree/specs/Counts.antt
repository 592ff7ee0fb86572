-- How much a tree holds. Assumes nothing.
--
-- tally f g t     f k for each token of kind k, and g for each form, at every level, added up
-- tokens_of k t   how many tokens of kind k it has, at every level
-- tokens t        how many tokens
-- forms t         how many forms
-- items t         how many items: tokens and forms
-- counts t        all of it, as a census
use Rattle.std.specs.Prelude.{ℕ, ◌+◌, cond, ◌==◌}
use Rattle.syntax.specs.Tokens.{number_of}
use Rattle.syntax.specs.declared.census.Census.{Census}
use Rattle.syntax.specs.declared.kind.Kind.{Kind}
use Rattle.syntax.specs.declared.kind.Kind.TheVariants as K
use Rattle.tree.specs.Items.{top_items, first_kind, last_kind}
use Rattle.tree.specs.Trees.{Tree, nil, token, form}
use Rattle.tree.specs.WellFormed.{nesting}

abbrev pub tally : (Kind → ℕ) → ℕ → Tree → ℕ
tally f g nil = 0
tally f g (token k bs rest) = f k + tally f g rest
tally f g (form i rest) = g + (tally f g i + tally f g rest)

abbrev pub tokens_of : Kind → Tree → ℕ
tokens_of k t = tally (λ j. cond (number_of j == number_of k) 1 0) 0 t

abbrev pub tokens : Tree → ℕ
tokens t = tally (λ _. 1) 0 t

abbrev pub forms : Tree → ℕ
forms t = tally (λ _. 0) 1 t

abbrev pub items : Tree → ℕ
items t = tally (λ _. 1) 1 t

abbrev pub counts : Tree → Census
counts t =
    record {
      line_ends = tokens_of K.LineEnd t;
      blanks = tokens_of K.Blank t;
      words = tokens_of K.Word t;
      quoted = tokens_of K.Quoted t;
      comments = tokens_of K.Comment t;
      tokens = tokens t;
      forms = forms t;
      items = items t;
      top_items = top_items t;
      first = first_kind t;
      last = last_kind t;
      nesting = nesting t;
    }
