use Rattle.std.proofs.Common.{◌≡◌, ℕ, ◌++◌, ◌∷◌, [], List, Option, Some, None, lit<, sym}
use Rattle.std.specs.Prelude.{option_copied, MatchOption}
use Rattle.std.proofs.lemmas.Str.Pattern.{strip_suffix_char}
use Rattle.plain_domains.specs.PlainDomains.{before_caret}
use Rattle.plain_domains.proofs.Ends.{caret_none, caret_at}
use Rattle.plain_domains.proofs.plain.before_caret.Goals as goal
use denote.Ref.{Bor}

as_cut : (text : List ℕ) (r : Option (Bor (List ℕ))) → MatchOption r ((front : List ℕ) → text ≡ front ++ 94 ∷ [] → ⊥) (λ x. text ≡ x.now ++ 94 ∷ []) → option_copied r ≡ before_caret text
as_cut text None h = sym (caret_none text h)
as_cut text (Some x) h = sym (caret_at text x.now h)

pub returns : goal.returns
returns c = as_cut c.args.text.now c.strip_suffix.result (strip_suffix_char 94 c.args.text.now c.strip_suffix.result c.strip_suffix.ensures.cases (lit< tt))
