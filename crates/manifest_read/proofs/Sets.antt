-- Steps along the rulesets that a manifest names, up to the first that is refused.
use Rattle.std.proofs.Common.{◌≡◌, ℕ, ◌+◌, ◌-◌, ◌^◌, ◌<◌, ◌≤◌, List, [], ◌∷◌, ◌++◌, length, drop, get_or, Option, Some, None, refl, sym, ap, ◌∙◌, subst, append_assoc, inl, inr, ⊎_elim, arith}
use Rattle.std.specs.Prelude.{IfSome, min}
use Rattle.std.specs.List.{AllZip}
use Rattle.std.proofs.lemmas.List.{drop_more, drop_all, append-nil}
use Rattle.dnr_base.specs.Faults.{Rose}
use Rattle.update_spec.specs.Update.{NewRuleSet}
use Rattle.load_spec.specs.Files.{Files}
use Rattle.load_spec.specs.Manifest.{Resource}
use Rattle.load_spec.specs.Extensions.{RefusedFile, HoldsSet, BreaksSet, EndsAtOne}
use Rattle.manifest_read.specs.declared.refusal.ManifestRefusal.{ManifestRefusal}
use Rattle.manifest_read.specs.declared.refusal.ManifestRefusal.TheVariants.{ReadFault, FileTooLong, BadJson, BadManifest, RuleRefused, NoMemory}
use Rattle.manifest_read.specs.Refusals.{RefusesSet, RefusesSets}

-- ---- things that are read in order

-- those in front were read, and this is what is left
pub record IsReadTo {X Y : Type 0} (Reads : X → Y → Type 0) (xs : List X) (ys : List Y) (rest : List X) : Type 0 where
  pub front : List X
  pub read : AllZip Reads front ys
  pub all : xs ≡ front ++ rest

zip_more : {X Y : Type 0} (Reads : X → Y → Type 0) (front : List X) (ys : List Y) (x : X) (y : Y) → AllZip Reads front ys → Reads x y → AllZip Reads (front ++ x ∷ []) (ys ++ y ∷ [])
zip_more Reads [] [] x y all one = (one, tt)
zip_more Reads [] (other ∷ ys) x y all one = absurd all
zip_more Reads (first ∷ front) [] x y all one = absurd all
zip_more Reads (first ∷ front) (other ∷ ys) x y all one = (all.0, zip_more Reads front ys x y all.1 one)

ends_behind : {X Y : Type 0} (Reads : X → Y → Type 0) (Ends : X → Type 0) (front : List X) (ys : List Y) (rest : List X) → AllZip Reads front ys → EndsAtOne Reads Ends rest → EndsAtOne Reads Ends (front ++ rest)
ends_behind Reads Ends [] ys rest all ends = ends
ends_behind Reads Ends (first ∷ front) [] rest all ends = absurd all
ends_behind Reads Ends (first ∷ front) (y ∷ ys) rest all ends = inr (y, all.0, ends_behind Reads Ends front ys rest all.1 ends)

pub ends_wider : {X Y : Type 0} (Reads : X → Y → Type 0) (A B : X → Type 0) (xs : List X) → ((x : X) → A x → B x) → EndsAtOne Reads A xs → EndsAtOne Reads B xs
ends_wider Reads A B [] wider ends = absurd ends
ends_wider Reads A B (x ∷ xs) wider (inl here) = inl (wider x here)
ends_wider Reads A B (x ∷ xs) wider (inr later) = inr (later.0, later.1, ends_wider Reads A B xs wider later.2)

-- ---- rulesets

pub record AreReadSoFar (known : Option Files) (name : List ℕ) (resources : List Resource) (sets : List NewRuleSet) (next : ℕ) : Type 0 where
  pub same : IfSome known (λ files. IsReadTo (HoldsSet files name) resources sets (drop next resources))

pub sets_begin : (known : Option Files) (name : List ℕ) (resources : List Resource) → AreReadSoFar known name resources [] 0
sets_begin None name resources = record { same = tt }
sets_begin (Some files) name resources = record { same = record { front = []; read = tt; all = refl } }

rest_is : (resources : List Resource) (next : ℕ) (resource : Resource) → next < length resources → resource ≡ get_or resources next resource → drop next resources ≡ resource ∷ drop (next + 1) resources
rest_is resources next resource inside is = drop_more resources next resource inside ∙ ap (λ r. r ∷ drop (next + 1) resources) (sym is)

pub sets_go : (known : Option Files) (name : List ℕ) (resources : List Resource) (sets : List NewRuleSet) (next : ℕ) (resource : Resource) (set : NewRuleSet)
    → next < length resources → resource ≡ get_or resources next resource → AreReadSoFar known name resources sets next
    → IfSome known (λ files. HoldsSet files name resource set) → AreReadSoFar known name resources (sets ++ set ∷ []) (next + 1)
sets_go None name resources sets next resource set inside is so_far one = record { same = tt }
sets_go (Some files) name resources sets next resource set inside is so_far one = record {
  same = record {
    front = so_far.same.front ++ resource ∷ [];
    read = zip_more (HoldsSet files name) so_far.same.front sets resource set so_far.same.read one;
    all = so_far.same.all ∙ ap (λ rest. so_far.same.front ++ rest) (rest_is resources next resource inside is)
        ∙ sym (append_assoc so_far.same.front (resource ∷ []) (drop (next + 1) resources));
  };
}

pub sets_end : (known : Option Files) (name : List ℕ) (resources : List Resource) (sets : List NewRuleSet) (next : ℕ) → length resources ≤ next
    → AreReadSoFar known name resources sets next → IfSome known (λ files. AllZip (HoldsSet files name) resources sets)
sets_end None name resources sets next end so_far = tt
sets_end (Some files) name resources sets next end so_far =
    let all = so_far.same.all ∙ ap (λ rest. so_far.same.front ++ rest) (drop_all next resources end) ∙ append-nil so_far.same.front in
    subst (λ front. AllZip (HoldsSet files name) front sets) (sym all) so_far.same.read

breaks_wider : (files : Files) (A B : Type 0) (name : List ℕ) (refused : RefusedFile) (resource : Resource) → (A → B) → BreaksSet files A name refused resource → BreaksSet files B name refused resource
breaks_wider files A B name refused resource wider why = record {
  refusal = why.refusal;
  broken = ⊎_elim (λ broken. inl broken) (λ stopped. inr (wider stopped.0, stopped.1)) why.broken;
  same = why.same;
}

set_wider : (files : Files) (A B : Type 0) (name : List ℕ) (refusal : ManifestRefusal) (resource : Resource) → (A → B) → RefusesSet files A name refusal resource → RefusesSet files B name refusal resource
set_wider files A B name ReadFault resource wider why = why
set_wider files A B name (FileTooLong file) resource wider why = why
set_wider files A B name (BadJson file) resource wider why = breaks_wider files A B name _ resource wider why
set_wider files A B name (BadManifest field) resource wider why = why
set_wider files A B name (RuleRefused file refusal) resource wider why = breaks_wider files A B name _ resource wider why
set_wider files A B name NoMemory resource wider why = why

stop : (files : Files) (A B : Type 0) (name : List ℕ) (resources : List Resource) (sets : List NewRuleSet) (next : ℕ) (resource : Resource) (refusal : ManifestRefusal) → (A → B)
    → next < length resources → resource ≡ get_or resources next resource → IsReadTo (HoldsSet files name) resources sets (drop next resources)
    → RefusesSet files A name refusal resource → EndsAtOne (HoldsSet files name) (RefusesSet files B name refusal) resources
stop files A B name resources sets next resource refusal wider inside is so_far why =
    let Reads = HoldsSet files name in
    let Ends = RefusesSet files B name refusal in
    let ends : EndsAtOne Reads Ends (resource ∷ drop (next + 1) resources) = inl (set_wider files A B name refusal resource wider why) in
    let rest = subst (λ rs. EndsAtOne Reads Ends rs) (sym (rest_is resources next resource inside is)) ends in
    subst (λ rs. EndsAtOne Reads Ends rs) (sym so_far.all) (ends_behind Reads Ends so_far.front sets (drop next resources) so_far.read rest)

stop_for : (files : Files) (A B : Type 0) (name : List ℕ) (resources : List Resource) (sets : List NewRuleSet) (next : ℕ) (resource : Resource) (refusal : ManifestRefusal) → (A → B)
    → next < length resources → resource ≡ get_or resources next resource → IsReadTo (HoldsSet files name) resources sets (drop next resources)
    → RefusesSet files A name refusal resource → RefusesSets files B name resources refusal
stop_for files A B name resources sets next resource ReadFault wider inside is so_far why = tt
stop_for files A B name resources sets next resource NoMemory wider inside is so_far why = tt
stop_for files A B name resources sets next resource refusal wider inside is so_far why = stop files A B name resources sets next resource refusal wider inside is so_far why

pub sets_stop : (known : Option Files) (A B : Type 0) (name : List ℕ) (resources : List Resource) (sets : List NewRuleSet) (next : ℕ) (resource : Resource) (refusal : ManifestRefusal) → (A → B)
    → next < length resources → resource ≡ get_or resources next resource → AreReadSoFar known name resources sets next
    → IfSome known (λ files. RefusesSet files A name refusal resource) → IfSome known (λ files. RefusesSets files B name resources refusal)
sets_stop None A B name resources sets next resource refusal wider inside is so_far why = tt
sets_stop (Some files) A B name resources sets next resource refusal wider inside is so_far why =
    stop_for files A B name resources sets next resource refusal wider inside is so_far.same why

-- ---- counts of faults

min_grows : (a b end : ℕ) → a ≤ b → min (a + 1) end ≤ min (b + 1) end
min_grows a b end h = omega arith

pub rose_since : (a b now : ℕ) → a ≤ b → Rose b now → Rose a now
rose_since a b now before rose = omega (arith, min_grows a b (2 ^ 64 - 1) before, rose)
