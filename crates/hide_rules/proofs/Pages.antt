-- Lines, one after another.
use Rattle.std.proofs.Common.{◌≡◌, ◌<◌, ◌+◌, ℕ, zero, suc, arith, List, [], ◌∷◌, length, map, take, get_or, Bool, ◌&&◌, ◌||◌, not, String, Global, refl, sym, ap, ◌∙◌}
use Rattle.std.specs.Prelude.{filter}
use Rattle.std.specs.Borrow.{Bor}
use Rattle.std.specs.List.{list_any}
use Rattle.std.specs.BTreeSet.{BTreeSet}
use Rattle.std.specs.Str.{bytes_eq}
use Rattle.std.proofs.lemmas.List.{length-map}
use Rattle.std.proofs.lemmas.List.Folds.{list_any_more}
use Rattle.hide_spec.specs.HidingLine.{HidingLine}
use Rattle.hide_spec.specs.Hidden as hidden
use Rattle.hide_spec.specs.Hidden.{ascending}
use Rattle.hide_rules.specs.Ends.{ends_of}
use Rattle.hide_rules.specs.Page.{hidden_by}
use Rattle.hide_rules.specs.Selectors.{HasSelectors, PutsIn, speaks_of}
use Rattle.hide_rules.specs.declared.line.HidingLine as own
use Rattle.hide_rules.specs.Seen.{hiding_seen, lines_seen}
use Rattle.hide_rules.proofs.Longest.{applies_by_ends}

-- the pages of a host are those that its ends cover
pub page_by_ends : (lines : List HidingLine) (host : List ℕ) → hidden.hidden_by lines host ≡ hidden_by (ends_of host) lines
page_by_ends lines host =
    λ i. ascending (map (λ line. line.selector) (filter (λ line. not line.exception && applies_by_ends line.domains host i
    && not (list_any (λ other. other.exception && applies_by_ends other.domains host i && bytes_eq other.selector line.selector) lines)) lines))

-- ---- lines as the definitions see them

mapped_at : {X Y : Type 0} (f : X → Y) (xs : List X) (i : ℕ) (d : X) → get_or (map f xs) i (f d) ≡ f (get_or xs i d)
mapped_at f [] zero d = refl
mapped_at f [] (suc i) d = refl
mapped_at f (x ∷ xs) zero d = refl
mapped_at f (x ∷ xs) (suc i) d = mapped_at f xs i d

pub item_seen : (lines : List own.HidingLine) (i : ℕ) (item : own.HidingLine) → item ≡ get_or lines i item → get_or (map hiding_seen lines) i (hiding_seen item) ≡ hiding_seen item
item_seen lines i item is = mapped_at hiding_seen lines i item ∙ ap hiding_seen (sym is)

pub within_seen : (lines : List own.HidingLine) (i : ℕ) → i < length lines → i < length (map hiding_seen lines)
within_seen lines i inside = omega (arith, length-map lines hiding_seen)

-- ---- selectors, line by line

pub puts_more : (exception : Bool) (domains : List (List ℕ)) (lent : List (Bor own.HidingLine)) (i : ℕ) (item : Bor own.HidingLine) (old new : BTreeSet (String Global)) → i < length lent → item ≡ get_or lent i item
    → HasSelectors exception domains (take i (lines_seen lent)) old → PutsIn exception domains (hiding_seen item.now) old new → HasSelectors exception domains (take (i + 1) (lines_seen lent)) new
puts_more exception domains lent i item old new inside is before puts selector =
    let speaks : HidingLine → Bool = speaks_of exception domains selector in
    let seen : Bor own.HidingLine → HidingLine = λ line. hiding_seen line.now in
    let within : i < length (lines_seen lent) = omega (arith, length-map lent seen) in
    puts selector ∙ ap (λ b. b || speaks (seen item)) (before selector)
    ∙ ap (λ (l : HidingLine). list_any speaks (take i (lines_seen lent)) || speaks l) (sym (mapped_at seen lent i item ∙ ap seen (sym is)))
    ∙ sym (list_any_more speaks (lines_seen lent) i (seen item) within)
