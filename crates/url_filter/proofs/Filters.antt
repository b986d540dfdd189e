-- What a filter's text says, in the parts that are kept.
use Rattle.std.proofs.Common.{◌≡◌, ◌≢◌, ◌≤◌, ℕ, suc, List, [], ◌∷◌, length, drop, Bool, true, false, ◌&&◌, ◌==◌, nat_lt, nat_eq, refl, ap, ◌∙◌, ne_eqb, Ok, codes}
use Rattle.std.proofs.lemmas.Bool.{cond-true, cond-false, le-ltb, lt-ltb}
use Rattle.std.specs.Prelude.{if◌then◌else◌}
use Rattle.std.specs.List.{starts_with, list_all}
use Rattle.std.specs.Char.{is_ascii}
use Rattle.std.specs.Str.{IsAscii}
use Rattle.dnr_spec.specs.UrlFilter.{Anchor, Filter, anchor_of, anchor_len, filter_of, fits, fits_from, pattern_of, has_end_anchor, max_pattern}
use Rattle.dnr_base.specs.declared.span.Span.{Span}

chosen : (b : Bool) (x y : Filter) (a : Anchor) → x.anchor ≡ a → y.anchor ≡ a → (if b then x else y).anchor ≡ a
chosen true x y a p q = p
chosen false x y a p q = q

pub fits_by : (p text : List ℕ) (host : Span) (fold : Bool) (a : Anchor) → anchor_of p ≡ a → fits p text host fold ≡ fits_from a (filter_of p).ends fold (filter_of p).body text host
fits_by p text host fold a e =
    let rest : List ℕ = drop (anchor_len (anchor_of p)) p in
    ap (λ b. fits_from b (filter_of p).ends fold (filter_of p).body text host)
    (chosen (has_end_anchor rest) _ _ (anchor_of p) refl refl ∙ e)

all_ascii : (text : List ℕ) → IsAscii text → list_all is_ascii text ≡ true
all_ascii [] h = refl
all_ascii (b ∷ text) h = ap (λ t. t && list_all is_ascii text) (lt-ltb b 128 (h 0)) ∙ all_ascii text (λ i. h (suc i))

pub pattern_ok : (text : List ℕ) → length text ≢ 0 → length text ≤ 8192 → starts_with nat_eq text (codes "||*") ≡ false → IsAscii text → pattern_of text ≡ Ok text
pattern_ok text some short plain ascii =
    cond-false (length text == 0) _ _ (ne_eqb _ _ some)
    ∙ cond-false (nat_lt max_pattern (length text)) _ _ (le-ltb max_pattern (length text) short)
    ∙ cond-false (starts_with nat_eq text (codes "||*")) _ _ plain
    ∙ cond-true (list_all is_ascii text) _ _ (all_ascii text ascii)
