-- Which requests an extension may send elsewhere or change the headers of: Chrome's reference, "Host permissions". Which
-- types need access to the initiator too is this project's profile.
use Rattle.std.specs.Prelude.{ℕ, List, Bool, true, ◌&&◌, ◌||◌, Option, Some, None}
use Rattle.std.specs.List.{list_any}
use Rattle.dnr_base.specs.declared.kind.Kind.{Kind}
use Rattle.dnr_base.specs.declared.kind.Kind.TheVariants.{MainFrame}
use Rattle.dnr_base.specs.declared.request.Request.{Request}
use Rattle.dnr_base.specs.Kind.{same_kind}
use Rattle.dnr_base.specs.View.{View}
use Rattle.dnr_spec.specs.MatchPatterns.{match_fits, match_covers}

abbrev pub some_fits : List (List ℕ) → View → Bool
some_fits patterns view = list_any (λ pattern. match_fits pattern view) patterns

abbrev pub some_covers : List (List ℕ) → List ℕ → Bool
some_covers patterns host = list_any (λ pattern. match_covers pattern host) patterns

-- what a page asks for, and not the page itself, needs access to who asks, if anybody does
abbrev pub may_serve : List (List ℕ) → Kind → Option (List ℕ) → Bool
may_serve patterns kind None = true
may_serve patterns kind (Some initiator) = same_kind kind MainFrame || some_covers patterns initiator

-- by match patterns; an extension without a list has access to every request
abbrev pub has_access : Option (List (List ℕ)) → Request → Bool
has_access None request = true
has_access (Some patterns) request =
    some_fits patterns request.view && may_serve patterns request.kind request.initiator
