-- Why one point to go back to is enough: a piece without a star takes as many bytes wherever it stands.
use Rattle.std.proofs.Common.{◌≡◌, ◌≢◌, ◌<◌, ◌+◌, ◌-◌, ℕ, zero, suc, List, [], ◌∷◌, length, drop, get_or, Bool, true, false, ◌||◌, ◌&&◌, ◌==◌, refl, sym, ap, ◌∙◌, subst, ⊎_elim, arith, ne_eqb, eq-eqb, add-one}
use Rattle.std.proofs.lemmas.Bool.{cases_Bool, cond-true, cond-false, and_parts, true≢false}
use Rattle.std.proofs.lemmas.List.{drop_more, drop-drop, length-drop}
use Rattle.std.proofs.Math.Seq.{drop-nil}
use Rattle.dnr_spec.specs.UrlFilter.{fits_at, some_end, is_separator, is_same}
use Rattle.url_filter.specs.Stops.{HasNoStar, StopsAtStar, takes}
use Rattle.url_filter.specs.Told.{WalkTells, Tells, IsShorter}
use Rattle.url_filter.specs.declared.walks.Stop.{Stop}
use Rattle.url_filter.specs.declared.walks.Stop.TheVariants.{Star, Fits, Fails}

pub or_right : (a b : Bool) → b ≡ true → (a || b) ≡ true
or_right true b h = refl
or_right false b h = h

pub or_false : (a b : Bool) → a ≡ false → b ≡ false → (a || b) ≡ false
or_false true b h g = h
or_false false b h g = g

-- ---- a byte of the pattern and a byte of the text

pub one_more : (ends fold : Bool) (c x : ℕ) (pattern v : List ℕ) → c ≢ 42 → fits_at ends fold (c ∷ pattern) (x ∷ v) ≡ (takes fold c x && fits_at ends fold pattern v)
one_more ends fold c x pattern v other =
    cond-false (c == 42) (some_end (fits_at ends fold pattern) (x ∷ v)) _ (ne_eqb c 42 other)
    ∙ ⊎_elim
    (λ caret. cond-true (c == 94) _ _ caret ∙ ap (λ b. b && fits_at ends fold pattern v) (sym (cond-true (c == 94) (is_separator x) (is_same fold x c) caret)))
    (λ plain. cond-false (c == 94) _ _ plain ∙ ap (λ b. b && fits_at ends fold pattern v) (sym (cond-false (c == 94) (is_separator x) (is_same fold x c) plain)))
    (cases_Bool (c == 94))

end_more : (ends fold : Bool) (c : ℕ) (pattern : List ℕ) → c ≢ 42 → c ≡ 94 → fits_at ends fold (c ∷ pattern) [] ≡ fits_at ends fold pattern []
end_more ends fold c pattern other is =
    cond-false (c == 42) (fits_at ends fold pattern []) _ (ne_eqb c 42 other) ∙ cond-true (c == 94) (fits_at ends fold pattern []) false (eq-eqb c 94 is)

pub step_byte : (ends fold : Bool) (p rest later : List ℕ) (i x : ℕ) → i < length p → get_or p i 0 ≢ 42 → rest ≡ x ∷ later → takes fold (get_or p i 0) x ≡ true → fits_at ends fold (drop i p) rest ≡ fits_at ends fold (drop (i + 1) p) later
step_byte ends fold p rest later i x lt other e takes_it =
    ap (λ q. fits_at ends fold q rest) (drop_more p i 0 lt)
    ∙ ap (λ t. fits_at ends fold (get_or p i 0 ∷ drop (i + 1) p) t) e
    ∙ one_more ends fold (get_or p i 0) x (drop (i + 1) p) later other
    ∙ ap (λ b. b && fits_at ends fold (drop (i + 1) p) later) takes_it

pub step_end : (ends fold : Bool) (p rest : List ℕ) (i : ℕ) → i < length p → get_or p i 0 ≢ 42 → get_or p i 0 ≡ 94 → rest ≡ [] → fits_at ends fold (drop i p) rest ≡ fits_at ends fold (drop (i + 1) p) rest
step_end ends fold p rest i lt other caret e =
    ap (λ q. fits_at ends fold q rest) (drop_more p i 0 lt)
    ∙ ap (λ t. fits_at ends fold (get_or p i 0 ∷ drop (i + 1) p) t) e
    ∙ end_more ends fold (get_or p i 0) (drop (i + 1) p) other caret
    ∙ ap (λ t. fits_at ends fold (drop (i + 1) p) t) (sym e)

-- what is left of the text behind a byte more, and at its end
pub left_byte : (text rest later : List ℕ) (i x : ℕ) → rest ≡ drop i text → rest ≡ x ∷ later → later ≡ drop (i + 1) text
left_byte text rest later i x left e = sym (ap (drop 1) e) ∙ ap (drop 1) left ∙ drop-drop 1 i text

pub left_end : (text rest : List ℕ) (i : ℕ) → rest ≡ drop i text → rest ≡ [] → rest ≡ drop (i + 1) text
left_end text rest i left e = e ∙ sym (ap (drop 1) e) ∙ ap (drop 1) left ∙ drop-drop 1 i text

-- ---- a later place

tail_more : (q : List ℕ → Bool) (v : List ℕ) (n : ℕ) → some_end q (drop (suc n) v) ≡ true → some_end q (drop n v) ≡ true
tail_more q [] zero h = h
tail_more q [] (suc n) h = h
tail_more q (y ∷ v) zero h = or_right (q (y ∷ v)) (some_end q v) h
tail_more q (y ∷ v) (suc n) h = tail_more q v n h

step_back : (q : List ℕ → Bool) (y : ℕ) (v : List ℕ) (n : ℕ) → some_end q (drop n v) ≡ true → some_end q (drop n (y ∷ v)) ≡ true
step_back q y v zero h = or_right (q (y ∷ v)) (some_end q v) h
step_back q y v (suc n) h = tail_more q v n h

pub before : (q : List ℕ → Bool) (v : List ℕ) (n : ℕ) → some_end q (drop n v) ≡ true → some_end q v ≡ true
before q v zero h = h
before q v (suc n) h = before q v n (tail_more q v n h)

-- ---- a piece without a star

pub next_fits : (ends fold : Bool) (c x : ℕ) (pattern v : List ℕ) → c ≢ 42 → fits_at ends fold (c ∷ pattern) (x ∷ v) ≡ true → fits_at ends fold pattern v ≡ true
next_fits ends fold c x pattern v other h = (and_parts (takes fold c x) _ (sym (one_more ends fold c x pattern v other) ∙ h)).1

pub next_fits_end : (ends fold : Bool) (c : ℕ) (pattern : List ℕ) → c ≢ 42 → fits_at ends fold (c ∷ pattern) [] ≡ true → fits_at ends fold pattern [] ≡ true
next_fits_end ends fold c pattern other h =
    let one = sym (cond-false (c == 42) (fits_at ends fold pattern []) _ (ne_eqb c 42 other)) ∙ h in
    ⊎_elim
    (λ caret. sym (cond-true (c == 94) _ _ caret) ∙ one)
    (λ plain. absurd (true≢false (sym (sym (cond-false (c == 94) (fits_at ends fold pattern []) false plain) ∙ one))))
    (cases_Bool (c == 94))

-- where the piece and a star begin to fit, what follows the star fits some end behind the piece
pub piece_fits : (ends fold : Bool) (n : ℕ) (p u : List ℕ) → HasNoStar p n → get_or p n 0 ≡ 42 → fits_at ends fold p u ≡ true → some_end (fits_at ends fold (drop (suc n) p)) (drop n u) ≡ true
piece_fits ends fold zero [] u plain star h = absurd (omega arith)
piece_fits ends fold zero (c ∷ p) u plain star h = sym (cond-true (c == 42) (some_end (fits_at ends fold p) u) _ (eq-eqb c 42 star)) ∙ h
piece_fits ends fold (suc n) [] u plain star h = absurd (omega arith)
piece_fits ends fold (suc n) (c ∷ p) [] plain star h =
    subst (λ (l : List ℕ). some_end (fits_at ends fold (drop (suc n) p)) l ≡ true) (drop-nil n)
    (piece_fits ends fold n p [] (λ k lt. plain (suc k) (omega arith)) star (next_fits_end ends fold c p (plain zero (omega arith)) h))
piece_fits ends fold (suc n) (c ∷ p) (x ∷ v) plain star h =
    piece_fits ends fold n p v (λ k lt. plain (suc k) (omega arith)) star (next_fits ends fold c x p v (plain zero (omega arith)) h)

spread : (ends fold : Bool) (n : ℕ) (p v : List ℕ) → HasNoStar p n → get_or p n 0 ≡ 42 → some_end (fits_at ends fold p) v ≡ true → some_end (fits_at ends fold (drop (suc n) p)) (drop n v) ≡ true
spread ends fold n p [] plain star h = piece_fits ends fold n p [] plain star h
spread ends fold n p (y ∷ v) plain star h =
    ⊎_elim
    (λ here. piece_fits ends fold n p (y ∷ v) plain star here)
    (λ not_here. step_back (fits_at ends fold (drop (suc n) p)) y v n (spread ends fold n p v plain star (sym (ap (λ b. b || some_end (fits_at ends fold p) v) not_here) ∙ h)))
    (cases_Bool (fits_at ends fold p (y ∷ v)))

-- the places where a pattern fits and where its rest behind its first star does, from a place where the piece before it fits
place_star : (ends fold : Bool) (p u after rest : List ℕ) → StopsAtStar ends fold p u after rest → some_end (fits_at ends fold p) u ≡ some_end (fits_at ends fold after) rest
place_star ends fold p [] after rest s = s.same
place_star ends fold p (y ∷ v) after rest s =
    ⊎_elim
    (λ yes. ap (λ b. b || some_end (fits_at ends fold p) v) (s.same ∙ yes) ∙ sym yes)
    (λ no. or_false _ _ (s.same ∙ no) (⊎_elim
    (λ later. absurd (true≢false (sym (
    subst (λ (l : List ℕ). some_end (fits_at ends fold l) rest ≡ true) (sym (s.behind ∙ ap (λ i. drop i p) (add-one s.place)))
    (subst (λ (l : List ℕ). some_end (fits_at ends fold (drop (suc s.place) p)) l ≡ true) (sym s.left)
    (step_back (fits_at ends fold (drop (suc s.place) p)) y v s.place (spread ends fold s.place p v s.plain s.star later)))
    ) ∙ no)))
    (λ none. none)
    (cases_Bool (some_end (fits_at ends fold p) v))) ∙ sym no)
    (cases_Bool (some_end (fits_at ends fold after) rest))

-- ---- what a walk tells

star_within : (p : List ℕ) (n : ℕ) → get_or p n 0 ≡ 42 → n < length p
star_within [] n star = absurd (omega arith)
star_within (c ∷ p) zero star = omega arith
star_within (c ∷ p) (suc n) star = let less = star_within p n star in omega arith

pub shorter : (ends fold : Bool) (p u : List ℕ) (s : Stop) → WalkTells ends fold p u s → IsShorter p s
shorter ends fold p u (Star after rest) w =
    let e : length after.now ≡ length p - (w.place + 1) = ap length w.behind ∙ length-drop (w.place + 1) p in
    let within : w.place < length p = star_within p w.place w.star in
    omega arith
shorter ends fold p u Fits w = tt
shorter ends fold p u Fails w = tt

pub begin_tells : (ends fold : Bool) (p u : List ℕ) (s : Stop) → WalkTells ends fold p u s → Tells ends fold (fits_at ends fold p u) s
begin_tells ends fold p u (Star after rest) w = w.same
begin_tells ends fold p u Fits w = w
begin_tells ends fold p u Fails w = w

pub place_tells : (ends fold : Bool) (p all u : List ℕ) (s : Stop) → some_end (fits_at ends fold p) all ≡ some_end (fits_at ends fold p) u → WalkTells ends fold p u s → s ≢ Fails → Tells ends fold (some_end (fits_at ends fold p) all) s
place_tells ends fold p all u (Star after rest) same w other = same ∙ place_star ends fold p u after.now rest.now w
place_tells ends fold p all [] Fits same w other = same ∙ w
place_tells ends fold p all (y ∷ v) Fits same w other = same ∙ ap (λ b. b || some_end (fits_at ends fold p) v) w
place_tells ends fold p all u Fails same w other = absurd (other refl)
