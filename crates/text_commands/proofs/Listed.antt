-- Lines of a list, one after another.
use Rattle.std.proofs.Common.{◌≡◌, ℕ, ◌+◌, ◌<◌, ◌≤◌, List, [], ◌∷◌, ◌++◌, length, take, get_or, sym, ap, ◌∙◌, append_assoc}
use Rattle.std.proofs.lemmas.List.{take_more, take_all, append-nil}
use Rattle.compile_spec.specs.declared.reported.Reported.{Reported}
use Rattle.hide_spec.specs.declared.hide_reported.HideReported.{HideReported}
use Rattle.prune_spec.specs.declared.shadow.Shadow.{Shadow}
use Rattle.session_spec.specs.Hiding.{unhidden_line, unhidden_lines}
use Rattle.session_spec.specs.Pruning.{removed_line, removed_lines}
use Rattle.session_spec.specs.Refusals.{each_line, unsupported_line, unsupported_lines}

lines_append : {X : Type 0} (line : X → List ℕ) (front : List X) (one : X) → each_line line (front ++ one ∷ []) ≡ each_line line front ++ line one
lines_append line [] one = append-nil (line one)
lines_append line (first ∷ front) one =
    ap (λ l. line first ++ l) (lines_append line front one) ∙ sym (append_assoc (line first) (each_line line front) (line one))

one_more_line : {X : Type 0} (line : X → List ℕ) (all : List X) (next : ℕ) (one : X) → next < length all → one ≡ get_or all next one
    → each_line line (take (next + 1) all) ≡ each_line line (take next all) ++ line one
one_more_line line all next one inside is =
    ap (each_line line) (take_more all next one inside ∙ ap (λ r. take next all ++ r ∷ []) (sym is)) ∙ lines_append line (take next all) one

all_lines : {X : Type 0} (line : X → List ℕ) (all : List X) (next : ℕ) → length all ≤ next → each_line line (take next all) ≡ each_line line all
all_lines line all next end = ap (each_line line) (take_all next all end)

pub one_more_unsupported : (all : List Reported) (next : ℕ) (one : Reported) → next < length all → one ≡ get_or all next one
    → unsupported_lines (take (next + 1) all) ≡ unsupported_lines (take next all) ++ unsupported_line one
one_more_unsupported all next one inside is = one_more_line unsupported_line all next one inside is

pub all_unsupported : (all : List Reported) (next : ℕ) → length all ≤ next → unsupported_lines (take next all) ≡ unsupported_lines all
all_unsupported all next end = all_lines unsupported_line all next end

pub one_more_unhidden : (all : List HideReported) (next : ℕ) (one : HideReported) → next < length all → one ≡ get_or all next one
    → unhidden_lines (take (next + 1) all) ≡ unhidden_lines (take next all) ++ unhidden_line one
one_more_unhidden all next one inside is = one_more_line unhidden_line all next one inside is

pub all_unhidden : (all : List HideReported) (next : ℕ) → length all ≤ next → unhidden_lines (take next all) ≡ unhidden_lines all
all_unhidden all next end = all_lines unhidden_line all next end

pub one_more_removed : (all : List Shadow) (next : ℕ) (one : Shadow) → next < length all → one ≡ get_or all next one
    → removed_lines (take (next + 1) all) ≡ removed_lines (take next all) ++ removed_line one
one_more_removed all next one inside is = one_more_line removed_line all next one inside is

pub all_removed : (all : List Shadow) (next : ℕ) → length all ≤ next → removed_lines (take next all) ≡ removed_lines all
all_removed all next end = all_lines removed_line all next end

pub next_unhidden : (all : List HideReported) (next : ℕ) (one : HideReported) (before now : List ℕ) → next < length all → one ≡ get_or all next one
    → before ≡ unhidden_lines (take next all) → now ≡ before ++ unhidden_line one → now ≡ unhidden_lines (take (next + 1) all)
next_unhidden all next one before now inside is so_far appended = appended ∙ ap (λ t. t ++ unhidden_line one) so_far ∙ sym (one_more_unhidden all next one inside is)

pub next_removed : (all : List Shadow) (next : ℕ) (one : Shadow) (before now : List ℕ) → next < length all → one ≡ get_or all next one
    → before ≡ removed_lines (take next all) → now ≡ before ++ removed_line one → now ≡ removed_lines (take (next + 1) all)
next_removed all next one before now inside is so_far appended = appended ∙ ap (λ t. t ++ removed_line one) so_far ∙ sym (one_more_removed all next one inside is)
