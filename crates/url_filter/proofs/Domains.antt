-- The first place of a host at which the piece before the first star fits decides for all of them.
use Rattle.std.proofs.Common.{◌≡◌, ◌≢◌, ◌<◌, ◌≤◌, ◌+◌, ◌-◌, ℕ, zero, suc, List, drop, take, length, Bool, true, false, ◌||◌, ◌&&◌, ◌==◌, nat_lt, get_or, refl, sym, ap, ◌∙◌, subst, ⊎_elim, arith, add-one, ne_eqb, eq-eqb}
use Rattle.std.proofs.lemmas.Bool.{cases_Bool, cases_lt, lt-ltb, le-ltb, true≢false}
use Rattle.std.proofs.lemmas.List.{drop-drop, length-drop, take_all}
use Rattle.dnr_spec.specs.UrlFilter.{domain, fits_at, fits_from, some_end, some_below, follows_dot}
use Rattle.dnr_base.specs.declared.span.Span.{Span}
use Rattle.url_filter.specs.Stops.{StopsAtStar}
use Rattle.url_filter.specs.Told.{WalkTells, Tells}
use Rattle.url_filter.specs.declared.walks.Stop.{Stop}
use Rattle.url_filter.specs.declared.walks.Stop.TheVariants.{Star, Fits, Fails}
use Rattle.url_filter.proofs.Pieces.{or_right, or_false, before, piece_fits}

-- a slice up to the end of the text
pub tail_slice : (text : List ℕ) (place : ℕ) → take (length text - place) (drop place text) ≡ drop place text
tail_slice text place = let e = length-drop place text in take_all (length text - place) (drop place text) (omega (arith, e))

or_left : (a b : Bool) → a ≡ true → (a || b) ≡ true
or_left true b h = refl
or_left false b h = absurd (true≢false (sym h))

and_true : (a b : Bool) → a ≡ true → b ≡ true → (a && b) ≡ true
and_true true b h g = g
and_true false b h g = h

and_left : (a b : Bool) → a ≡ false → (a && b) ≡ false
and_left true b h = absurd (true≢false h)
and_left false b h = h

and_right : (a b : Bool) → b ≡ false → (a && b) ≡ false
and_right true b h = h
and_right false b h = refl

found_below : (test : ℕ → Bool) (n k : ℕ) → k < n → test k ≡ true → some_below test n ≡ true
found_below test zero k lt h = absurd (omega arith)
found_below test (suc n) k lt h =
    ⊎_elim
    (λ less. or_right (test n) _ (found_below test n k less h))
    (λ past. let same : k ≡ n = omega arith in or_left (test n) _ (subst (λ (i : ℕ). test i ≡ true) same h))
    (cases_lt k n)

pub none_below : (test : ℕ → Bool) (n : ℕ) → ((k : ℕ) → k < n → test k ≡ false) → some_below test n ≡ false
none_below test zero h = refl
none_below test (suc n) h = or_false _ _ (h n (omega arith)) (none_below test n (λ k lt. h k (omega arith)))

-- a later place, from which the piece fits too, leaves less of the text behind the star
later_place : (q : List ℕ → Bool) (text : List ℕ) (n place k : ℕ) → place ≤ k → some_end q (drop n (drop k text)) ≡ true → some_end q (drop n (drop place text)) ≡ true
later_place q text n place k le h =
    let further : place + n + (k - place) ≡ k + n = omega arith in
    before q (drop n (drop place text)) (k - place) (
    rw (drop-drop n place text, drop-drop (k - place) (place + n) text, further, ← drop-drop n k text) h
    )

piece_fails : (ends fold : Bool) (p text after rest : List ℕ) (place k : ℕ) → place ≤ k → StopsAtStar ends fold p (drop place text) after rest → some_end (fits_at ends fold after) rest ≡ false → fits_at ends fold p (drop k text) ≡ false
piece_fails ends fold p text after rest place k le s nowhere =
    ⊎_elim
    (λ yes. absurd (true≢false (sym (
    subst (λ (l : List ℕ). some_end (fits_at ends fold l) rest ≡ true) (sym (s.behind ∙ ap (λ i. drop i p) (add-one s.place)))
    (subst (λ (l : List ℕ). some_end (fits_at ends fold (drop (suc s.place) p)) l ≡ true) (sym s.left)
    (later_place (fits_at ends fold (drop (suc s.place) p)) text s.place place k le
    (piece_fits ends fold s.place p (drop k text) s.plain s.star yes)))
    ) ∙ nowhere)))
    (λ none. none)
    (cases_Bool (fits_at ends fold p (drop k text)))

-- ---- the places of the host

-- the filter fits from this place, which follows a dot of the host
abbrev tried : Bool → Bool → List ℕ → List ℕ → Span → ℕ → Bool
tried ends fold p text host place = follows_dot text host place && fits_at ends fold p (drop place text)

-- no dot of the host stands before its start
pub fails_before : (ends fold : Bool) (p text : List ℕ) (host : Span) (k : ℕ) → k ≤ host.start → tried ends fold p text host k ≡ false
fails_before ends fold p text host k le =
    and_left (follows_dot text host k) _ (and_left (nat_lt host.start k) (get_or text (k - 1) 0 == 46) (le-ltb host.start k le))

pub fails_behind : (ends fold : Bool) (p text : List ℕ) (host : Span) (k : ℕ) → get_or text (k - 1) 0 ≢ 46 → tried ends fold p text host k ≡ false
fails_behind ends fold p text host k other =
    and_left (follows_dot text host k) _ (and_right (nat_lt host.start k) (get_or text (k - 1) 0 == 46) (ne_eqb (get_or text (k - 1) 0) 46 other))

pub fails_here : (ends fold : Bool) (p text : List ℕ) (host : Span) (k : ℕ) → fits_at ends fold p (drop k text) ≡ false → tried ends fold p text host k ≡ false
fails_here ends fold p text host k failed = and_right (follows_dot text host k) _ failed

-- ---- a walk from the host's start

start_star : (ends fold : Bool) (p text after rest : List ℕ) (host : Span) → StopsAtStar ends fold p (drop host.start text) after rest → fits_from domain ends fold p text host ≡ some_end (fits_at ends fold after) rest
start_star ends fold p text after rest host s =
    ⊎_elim
    (λ yes. or_left (fits_at ends fold p (drop host.start text)) _ (s.same ∙ yes) ∙ sym yes)
    (λ no. or_false (fits_at ends fold p (drop host.start text)) _ (s.same ∙ no) (none_below (tried ends fold p text host) host.end (λ k less. ⊎_elim
    (λ earlier. fails_before ends fold p text host k (omega arith))
    (λ later. fails_here ends fold p text host k (piece_fails ends fold p text after rest host.start k later s no))
    (cases_lt k host.start))) ∙ sym no)
    (cases_Bool (some_end (fits_at ends fold after) rest))

pub start_tells : (ends fold : Bool) (p text : List ℕ) (host : Span) (s : Stop) → WalkTells ends fold p (drop host.start text) s → s ≢ Fails → Tells ends fold (fits_from domain ends fold p text host) s
start_tells ends fold p text host (Star after rest) w other = start_star ends fold p text after.now rest.now host w
start_tells ends fold p text host Fits w other = or_left (fits_at ends fold p (drop host.start text)) _ w
start_tells ends fold p text host Fails w other = absurd (other refl)

-- ---- a walk from a place that follows a dot

-- the walks fail from the host's start and from the places before this one, which follows a dot of the host
pub record IsNext (ends fold : Bool) (p text : List ℕ) (host : Span) (place : ℕ) : Type 0 where
  pub start : fits_at ends fold p (drop host.start text) ≡ false
  pub none : (k : ℕ) → k < place → tried ends fold p text host k ≡ false
  pub after : host.start < place
  pub within : place < host.end
  pub dot : get_or text (place - 1) 0 ≡ 46

found_here : (ends fold : Bool) (p text : List ℕ) (host : Span) (place : ℕ) → IsNext ends fold p text host place → fits_at ends fold p (drop place text) ≡ true → fits_from domain ends fold p text host ≡ true
found_here ends fold p text host place next fits =
    or_right (fits_at ends fold p (drop host.start text)) _ (
    found_below (tried ends fold p text host) host.end place next.within (
    and_true (follows_dot text host place) _
    (and_true (nat_lt host.start place) (get_or text (place - 1) 0 == 46) (lt-ltb host.start place next.after) (eq-eqb (get_or text (place - 1) 0) 46 next.dot))
    fits))

label_star : (ends fold : Bool) (p text after rest : List ℕ) (host : Span) (place : ℕ) → IsNext ends fold p text host place → StopsAtStar ends fold p (drop place text) after rest → fits_from domain ends fold p text host ≡ some_end (fits_at ends fold after) rest
label_star ends fold p text after rest host place next s =
    ⊎_elim
    (λ yes. found_here ends fold p text host place next (s.same ∙ yes) ∙ sym yes)
    (λ no. or_false (fits_at ends fold p (drop host.start text)) _ next.start (none_below (tried ends fold p text host) host.end (λ k less. ⊎_elim
    (λ earlier. next.none k earlier)
    (λ later. fails_here ends fold p text host k (piece_fails ends fold p text after rest place k later s no))
    (cases_lt k place))) ∙ sym no)
    (cases_Bool (some_end (fits_at ends fold after) rest))

pub label_tells : (ends fold : Bool) (p text : List ℕ) (host : Span) (place : ℕ) (s : Stop) → IsNext ends fold p text host place → WalkTells ends fold p (drop place text) s → s ≢ Fails → Tells ends fold (fits_from domain ends fold p text host) s
label_tells ends fold p text host place (Star after rest) next w other = label_star ends fold p text after.now rest.now host place next w
label_tells ends fold p text host place Fits next w other = found_here ends fold p text host place next w
label_tells ends fold p text host place Fails next w other = absurd (other refl)
