use Rattle.std.proofs.Common.{arith, ◌≡◌, ℕ, zero, suc, List, [], ◌∷◌, true, nat_lt, refl, sym, subst, codes, lit<}
use Rattle.std.specs.List.{list_all}
use Rattle.std.specs.Str.{IsAscii}
use Rattle.std.proofs.lemmas.Bool.{and_parts}
use Rattle.std.proofs.lemmas.Bool.Decides.{nat_tests}
use Rattle.std.proofs.lemmas.Str.Ascii.{IsAscii-nil}
use Rattle.dnr_base.specs.View.{IsView}
use Rattle.dnr_base.specs.declared.scheme.Scheme.TheVariants.{Http}
use Rattle.base_tests.proofs.urls_and_hosts.view.Goals as goal

all_ascii : (text : List ℕ) → list_all (λ b. nat_lt b 128) text ≡ true → IsAscii text
all_ascii [] e i = IsAscii-nil i
all_ascii (b ∷ text) e zero = let small = (and_parts (nat_lt b 128) (list_all (λ b. nat_lt b 128) text) e).0 in grind (arith, nat_tests, small)
all_ascii (b ∷ text) e (suc i) = all_ascii text (and_parts (nat_lt b 128) (list_all (λ b. nat_lt b 128) text) e).1 i

is_view : IsView (record { full = codes "http://u@x.org:80/a?b#c"; cut = 21; scheme = Http; host = record { start = 9; end = 14 } })
is_view = record {
  ascii = all_ascii (codes "http://u@x.org:80/a?b#c") refl;
  first = lit< tt;
  order = lit< tt;
  within = lit< tt;
  cut = lit< tt;
  fragment = refl;
  host = refl;
  before = refl;
  behind = refl;
}

pub build-requires : goal.build-requires
build-requires c = subst (λ full. IsView (record { full = full; cut = 21; scheme = Http; host = record { start = 9; end = 14 } })) (sym c.in_ok-full.ensures) is_view
