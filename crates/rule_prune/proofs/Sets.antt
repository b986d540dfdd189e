-- One set of types, or of methods, in another.
use Rattle.std.proofs.Common.{◌≡◌, ℕ, List, Bool, true, false, not, ◌||◌, ◌==◌, inl, inr, refl, sym, ap, ◌∙◌, ⊎_elim}
use Rattle.std.specs.List.{list_all, list_any}
use Rattle.std.proofs.lemmas.Bool.{eqb-true, eq-eqb, true≢false, or_left, or_right, or_cases, not-true, not_from_false}
use Rattle.dnr_base.specs.declared.kind.Kind.{Kind}
use Rattle.dnr_base.specs.declared.kind.Kind.TheVariants as kind
use Rattle.dnr_base.specs.declared.method.Method.{Method}
use Rattle.dnr_base.specs.declared.method.Method.TheVariants as method
use Rattle.dnr_base.specs.Kind.{all_kinds, has_kind, same_kind}
use Rattle.dnr_base.specs.Kind as kinds
use Rattle.dnr_base.specs.Method.{all_methods, has_method, same_method}
use Rattle.dnr_base.specs.Method as methods
use Rattle.compile_laws.proofs.Lists.{In, each_passes, all_pass, each_in, in_each, any_in, any_out, true_or_false}

same_truth : (a b : Bool) → (a ≡ true → b ≡ true) → (b ≡ true → a ≡ true) → a ≡ b
same_truth true b f g = sym (f refl)
same_truth false true f g = g refl
same_truth false false f g = refl

module _ {X : Type 0} (place : X → ℕ) (all : List X) (in_all : (x : X) → In x all) (big small : List X) where
  abbrev has : List X → X → Bool
  has list x = list_any (λ other. place x == place other) list

  abbrev kept : X → Bool
  kept x = not (has small x) || has big x

  has_same : (x y : X) → place x ≡ place y → has big y ≡ true → has big x ≡ true
  has_same x y same h = ap (λ n. list_any (λ other. n == place other) big) same ∙ h

  walked : list_all kept all ≡ true → list_all (has big) small ≡ true
  walked h =
      all_pass (has big) small (in_each (λ x. has big x ≡ true) small (λ x i.
      ⊎_elim
      (λ out. absurd (true≢false (sym (any_in (λ other. place x == place other) x small i (eq-eqb (place x) (place x) refl)) ∙ not-true (has small x) out)))
      (λ there. there)
      (or_cases (not (has small x)) (has big x) (each_in (λ y. kept y ≡ true) x all (in_all x) (each_passes kept all h)))))

  listed : list_all (has big) small ≡ true → list_all kept all ≡ true
  listed h =
      all_pass kept all (in_each (λ x. kept x ≡ true) all (λ x i.
      ⊎_elim
      (λ here.
      let r = any_out (λ other. place x == place other) small here in
      or_right (not (has small x)) (has big x) (has_same x r.0 (eqb-true (place x) (place r.0) r.2) (each_in (λ y. has big y ≡ true) r.0 small r.1 (each_passes (has big) small h))))
      (λ none. or_left (not (has small x)) (has big x) (not_from_false (has small x) none))
      (true_or_false (has small x))))

  pub each_itself : (list : List X) → list_all (has list) list ≡ true
  each_itself list =
      all_pass (has list) list (in_each (λ x. has list x ≡ true) list (λ x i. any_in (λ other. place x == place other) x list i (eq-eqb (place x) (place x) refl)))

  pub walks : list_all kept all ≡ list_all (has big) small
  walks = same_truth (list_all kept all) (list_all (has big) small) walked listed

in_kinds : (x : Kind) → In x all_kinds
in_kinds kind.MainFrame = inl refl
in_kinds kind.SubFrame = inr (inl refl)
in_kinds kind.Stylesheet = inr (inr (inl refl))
in_kinds kind.Script = inr (inr (inr (inl refl)))
in_kinds kind.Image = inr (inr (inr (inr (inl refl))))
in_kinds kind.Font = inr (inr (inr (inr (inr (inl refl)))))
in_kinds kind.Object = inr (inr (inr (inr (inr (inr (inl refl))))))
in_kinds kind.XmlHttpRequest = inr (inr (inr (inr (inr (inr (inr (inl refl)))))))
in_kinds kind.Ping = inr (inr (inr (inr (inr (inr (inr (inr (inl refl))))))))
in_kinds kind.CspReport = inr (inr (inr (inr (inr (inr (inr (inr (inr (inl refl)))))))))
in_kinds kind.Media = inr (inr (inr (inr (inr (inr (inr (inr (inr (inr (inl refl))))))))))
in_kinds kind.WebSocket = inr (inr (inr (inr (inr (inr (inr (inr (inr (inr (inr (inl refl)))))))))))
in_kinds kind.WebTransport = inr (inr (inr (inr (inr (inr (inr (inr (inr (inr (inr (inr (inl refl))))))))))))
in_kinds kind.WebBundle = inr (inr (inr (inr (inr (inr (inr (inr (inr (inr (inr (inr (inr (inl refl)))))))))))))
in_kinds kind.Other = inr (inr (inr (inr (inr (inr (inr (inr (inr (inr (inr (inr (inr (inr (inl refl))))))))))))))

in_methods : (x : Method) → In x all_methods
in_methods method.Connect = inl refl
in_methods method.Delete = inr (inl refl)
in_methods method.Get = inr (inr (inl refl))
in_methods method.Head = inr (inr (inr (inl refl)))
in_methods method.Options = inr (inr (inr (inr (inl refl))))
in_methods method.Patch = inr (inr (inr (inr (inr (inl refl)))))
in_methods method.Post = inr (inr (inr (inr (inr (inr (inl refl))))))
in_methods method.Put = inr (inr (inr (inr (inr (inr (inr (inl refl)))))))
in_methods method.Other = inr (inr (inr (inr (inr (inr (inr (inr (inl refl))))))))

pub kinds_walked : (big small : List Kind) → list_all (λ x. not (has_kind small x) || has_kind big x) all_kinds ≡ list_all (has_kind big) small
kinds_walked big small = walks kinds.place_of all_kinds in_kinds big small

pub methods_walked : (big small : List Method) → list_all (λ x. not (has_method small x) || has_method big x) all_methods ≡ list_all (has_method big) small
methods_walked big small = walks methods.place_of all_methods in_methods big small

-- ---- equal sets

pub kinds_equal : (big small : List Kind) → big ≡ small → list_all (has_kind big) small ≡ true
kinds_equal big small same = ap (λ l. list_all (has_kind l) small) same ∙ each_itself kinds.place_of all_kinds in_kinds small small small

pub methods_equal : (big small : List Method) → big ≡ small → list_all (has_method big) small ≡ true
methods_equal big small same = ap (λ l. list_all (has_method l) small) same ∙ each_itself methods.place_of all_methods in_methods small small small
