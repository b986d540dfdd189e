-- Drafts and rules with ids.
use Rattle.std.proofs.Common.{ℕ, ◌+◌, suc, List, [], ◌∷◌, inl, inr, arith}
use Rattle.std.specs.List.{Contains, AllByRecursion}
use Rattle.compile_spec.specs.Compiled.{Draft, CompiledRule, rule_of, with_ids}
use Rattle.compile_laws.proofs.Lists.{Has, In}

-- a draft with an id
abbrev pub one_of : ℕ → Draft → CompiledRule
one_of id draft = record { rule = rule_of id draft; lines = draft.standing.lines }

pub each_numbered : (P : Draft → Type 0) (Q : CompiledRule → Type 0) → ((id : ℕ) (draft : Draft) → P draft → Q (one_of id draft)) → (id : ℕ) (drafts : List Draft) → AllByRecursion P drafts → AllByRecursion Q (with_ids id drafts)
each_numbered P Q f id [] h = tt
each_numbered P Q f id (draft ∷ drafts) h = (f id draft h.0, each_numbered P Q f (id + 1) drafts h.1)

pub has_numbered : (P : Draft → Type 0) (Q : CompiledRule → Type 0) → ((id : ℕ) (draft : Draft) → P draft → Q (one_of id draft)) → (id : ℕ) (drafts : List Draft) → Has P drafts → Has Q (with_ids id drafts)
has_numbered P Q f id [] h = h
has_numbered P Q f id (draft ∷ drafts) (inl h) = inl (f id draft h)
has_numbered P Q f id (draft ∷ drafts) (inr h) = inr (has_numbered P Q f (id + 1) drafts h)

pub contains : {X : Type 0} (x : X) (xs : List X) → In x xs → Contains xs x
contains x [] i = absurd i
contains x (y ∷ ys) (inl e) = (0, omega arith, e)
contains x (y ∷ ys) (inr i) = let c = contains x ys i in (suc c.0, omega (arith, c.1), c.2)
