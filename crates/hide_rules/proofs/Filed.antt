-- The places of lines, line by line.
use Rattle.std.proofs.Common.{◌≡◌, ◌<◌, ◌+◌, ℕ, zero, suc, List, [], ◌∷◌, ◌++◌, length, take, get_or, map, Bool, true, false, cond, not, ◌&&◌, ◌||◌, ◌⊎◌, inl, inr, refl, sym, ap, ◌∙◌, subst, ⊎_elim, arith, Option, None, Some}
use Rattle.std.specs.Borrow.{Bor}
use Rattle.std.specs.List.{slice_get, cons_option}
use Rattle.std.specs.Slice.{IsItemAt}
use Rattle.std.specs.Str.{bytes_eq}
use Rattle.std.proofs.lemmas.Bool.{and_parts, or_cases, or_left, cases_Bool, cond-true, cond-false}
use Rattle.std.proofs.lemmas.Grind.{take_at_read}
use Rattle.std.proofs.lemmas.List.Elements.{filter_map-append}
use Rattle.std.proofs.lemmas.Option.{slice_get_past}
use Rattle.std.proofs.lemmas.Slice.Eq.{bytes_eq-Decides}
use Rattle.list_spec.specs.declared.domain_entry.DomainEntry.{DomainEntry}
use Rattle.list_spec.specs.Entries.{is_listed}
use Rattle.hide_spec.specs.HidingLine.{HidingLine}
use Rattle.hide_rules.specs.declared.line.HidingLine as own
use Rattle.hide_rules.specs.Listings.{Listings, AddsPlace, FilesPlace, FindsEach, is_unlisted, lines_at, places_at}
use Rattle.hide_rules.specs.Members.{In}
use Rattle.hide_rules.specs.Seen.{hiding_seen, lines_seen}
use Rattle.hide_rules.proofs.Members.{in_before, in_behind, in_either}
use Rattle.hide_rules.proofs.Places.{line_at, place_of_line}

-- ---- the next line of a list

got : {X : Type 0} (xs : List X) (i : ℕ) (x : X) → i < length xs → get_or xs i x ≡ x → slice_get xs i ≡ Some x
got [] i x inside is = absurd (omega arith)
got (y ∷ xs) zero x inside is = ap Some is
got (y ∷ xs) (suc i) x inside is = got xs i x (omega arith) is

next_or_before : {X : Type 0} (xs : List X) (i : ℕ) (x y : X) → i < length xs → get_or xs i x ≡ x → In y (take (i + 1) xs) → In y (take i xs) ⊎ (x ≡ y)
next_or_before xs i x y inside is there =
    let more = take_at_read xs i x inside in
    ⊎_elim (λ before. inl before) (λ last. ⊎_elim (λ e. inr e) (λ none. absurd none) last)
    (in_either y (take i xs) (x ∷ []) (subst (λ t. In y t) (more.1 ∙ ap (λ z. take i xs ++ z ∷ []) is) there))

-- ---- the lines whose domains are all excluded

abbrev pub FindsUnlistedOf : List HidingLine → List HidingLine → List ℕ → Type 0
FindsUnlistedOf all lines places = (line : HidingLine) → In line lines → is_unlisted line ≡ true → In line (lines_at all places)

more_lines : (lines : List HidingLine) (old new : List ℕ) → ((place : ℕ) → In place old → In place new) → (line : HidingLine) → In line (lines_at lines old) → In line (lines_at lines new)
more_lines lines old new more line i = let r = place_of_line lines old line i in line_at lines new r.0 line (more r.0 r.1) r.2

pub unlisted_more : (lines : List HidingLine) (i : ℕ) (line : HidingLine) (old new : List ℕ) → i < length lines → get_or lines i line ≡ line → FindsUnlistedOf lines (take i lines) old
    → new ≡ old ++ cond (is_unlisted line) (i ∷ []) [] → FindsUnlistedOf lines (take (i + 1) lines) new
unlisted_more lines i line old new inside is before put other there unlisted =
    let more : (place : ℕ) → In place old → In place new = λ place p. subst (λ (t : List ℕ). In place t) (sym put) (in_before place old (cond (is_unlisted line) (i ∷ []) []) p) in
    ⊎_elim
    (λ earlier. more_lines lines old new more other (before other earlier unlisted))
    (λ this.
    let here : cond (is_unlisted line) (i ∷ []) [] ≡ i ∷ [] = cond-true (is_unlisted line) (i ∷ []) [] (ap is_unlisted this ∙ unlisted) in
    let last : In i (cond (is_unlisted line) (i ∷ []) []) = subst (λ (t : List ℕ). In i t) (sym here) (inl refl) in
    line_at lines new i other (subst (λ (t : List ℕ). In i t) (sym put) (in_behind i old (cond (is_unlisted line) (i ∷ []) []) last)) (got lines i line inside is ∙ ap Some this))
    (next_or_before lines i line other inside is there)

-- ---- the domains of a line

is_false : (b : Bool) → not b ≡ true → b ≡ false
is_false true h = cc
is_false false h = refl

listed_alone : (entry : DomainEntry) (domain : List ℕ) → is_listed (entry ∷ []) domain ≡ true → (entry.excluded ≡ false) × (entry.domain ≡ domain)
listed_alone entry domain h =
    ⊎_elim
    (λ here. let p = and_parts (not entry.excluded) (bytes_eq entry.domain domain) here in (is_false entry.excluded p.0, (bytes_eq-Decides entry.domain domain).0 p.1))
    (λ never. absurd (cc never))
    (or_cases (not entry.excluded && bytes_eq entry.domain domain) false h)

pub files_listed : (place : ℕ) (entry : DomainEntry) (old new : Listings) → AddsPlace entry.domain place old new → FilesPlace place (entry ∷ []) old new
files_listed place entry old new adds = record {
  keeps = λ domain other i.
      ⊎_elim
      (λ same. subst (λ (t : List ℕ). In other t) (sym (adds domain ∙ cond-true (bytes_eq domain entry.domain) _ _ same)) (in_before other (places_at old domain) (place ∷ []) i))
      (λ apart. subst (λ (t : List ℕ). In other t) (sym (adds domain ∙ cond-false (bytes_eq domain entry.domain) _ _ apart)) i)
      (cases_Bool (bytes_eq domain entry.domain));
  adds = λ domain listed.
      let p = listed_alone entry domain listed in
      let same : bytes_eq domain entry.domain ≡ true = (bytes_eq-Decides domain entry.domain).1 (sym p.1) in
      subst (λ (t : List ℕ). In place t) (sym (adds domain ∙ cond-true (bytes_eq domain entry.domain) _ _ same)) (in_behind place (places_at old domain) (place ∷ []) (inl refl));
}

pub files_nothing : (place : ℕ) (entry : DomainEntry) (listings : Listings) → entry.excluded ≡ true → FilesPlace place (entry ∷ []) listings listings
files_nothing place entry listings excluded = record {
  keeps = λ domain other i. i;
  adds = λ domain listed. let never : true ≡ false = sym excluded ∙ (listed_alone entry domain listed).0 in absurd (cc never);
}

pub files_none : (place : ℕ) (listings : Listings) → FilesPlace place [] listings listings
files_none place listings = record {
  keeps = λ domain other i. i;
  adds = λ domain listed. let never : false ≡ true = listed in absurd (cc never);
}

or_later : (a b : Bool) → b ≡ true → (a || b) ≡ true
or_later true b h = refl
or_later false b h = h

listed_either : (entries : List DomainEntry) (entry : DomainEntry) (domain : List ℕ) → is_listed (entries ++ entry ∷ []) domain ≡ true → (is_listed entries domain ≡ true) ⊎ (is_listed (entry ∷ []) domain ≡ true)
listed_either [] entry domain h = inr h
listed_either (first ∷ entries) entry domain h =
    let here : Bool = not first.excluded && bytes_eq first.domain domain in
    ⊎_elim
    (λ is. inl (or_left here (is_listed entries domain) is))
    (λ later. ⊎_elim (λ earlier. inl (or_later here (is_listed entries domain) earlier)) (λ last. inr last) (listed_either entries entry domain later))
    (or_cases here (is_listed (entries ++ entry ∷ []) domain) h)

files_more : (place : ℕ) (entries : List DomainEntry) (entry : DomainEntry) (first old new : Listings) → FilesPlace place entries first old → FilesPlace place (entry ∷ []) old new → FilesPlace place (entries ++ entry ∷ []) first new
files_more place entries entry first old new before files = record {
  keeps = λ domain other i. files.keeps domain other (before.keeps domain other i);
  adds = λ domain listed. ⊎_elim (λ earlier. files.keeps domain place (before.adds domain earlier)) (λ last. files.adds domain last) (listed_either entries entry domain listed);
}

pub files_next : (place : ℕ) (entries : List DomainEntry) (i : ℕ) (entry : DomainEntry) (first old new : Listings) → i < length entries → entry ≡ get_or entries i entry → FilesPlace place (take i entries) first old
    → FilesPlace place (entry ∷ []) old new → FilesPlace place (take (i + 1) entries) first new
files_next place entries i entry first old new inside is before files =
    let more = take_at_read entries i entry inside in
    subst (λ (t : List DomainEntry). FilesPlace place t first new) (sym (more.1 ∙ ap (λ (e : DomainEntry). take i entries ++ e ∷ []) (sym is))) (files_more place (take i entries) entry first old new before files)

-- ---- the lines that list a domain

pub listed_more : (lines : List HidingLine) (i : ℕ) (line : HidingLine) (old new : Listings) → i < length lines → get_or lines i line ≡ line → FindsEach lines (take i lines) old → FilesPlace i line.domains old new
    → FindsEach lines (take (i + 1) lines) new
listed_more lines i line old new inside is before files other domain there listed =
    ⊎_elim
    (λ earlier. more_lines lines (places_at old domain) (places_at new domain) (files.keeps domain) other (before other domain earlier listed))
    (λ this. line_at lines (places_at new domain) i other (files.adds domain (ap (λ (l : HidingLine). is_listed l.domains domain) this ∙ listed)) (got lines i line inside is ∙ ap Some this))
    (next_or_before lines i line other inside is there)

-- ---- lines that are lent

pub seen_more : (lent : List (Bor own.HidingLine)) (line : Bor own.HidingLine) → lines_seen (lent ++ line ∷ []) ≡ lines_seen lent ++ hiding_seen line.now ∷ []
seen_more [] line = refl
seen_more (first ∷ lent) line = ap (λ rest. hiding_seen first.now ∷ rest) (seen_more lent line)

-- ---- the line at a place, as the definitions see it

abbrev seen : Option own.HidingLine → Option HidingLine
seen None = None
seen (Some line) = Some (hiding_seen line)

pub got_seen : (lines : List own.HidingLine) (place : ℕ) → slice_get (map hiding_seen lines) place ≡ seen (slice_get lines place)
got_seen [] place = refl
got_seen (first ∷ lines) zero = refl
got_seen (first ∷ lines) (suc place) = got_seen lines place

pub line_got : (lines : List own.HidingLine) (place : ℕ) (line : Bor own.HidingLine) → IsItemAt lines place (Some line) → lines_at (map hiding_seen lines) (place ∷ []) ≡ hiding_seen line.now ∷ []
line_got lines place line is =
    ap (λ (o : Option HidingLine). cons_option o []) (got_seen lines place ∙ ap seen (got lines place line.now is.3.0 (sym is.1)))

pub none_got : (lines : List own.HidingLine) (place : ℕ) → IsItemAt lines place None → lines_at (map hiding_seen lines) (place ∷ []) ≡ []
none_got lines place is = ap (λ (o : Option HidingLine). cons_option o []) (got_seen lines place ∙ ap seen (slice_get_past lines place is.3))

pub places_next : (lines : List HidingLine) (places : List ℕ) (i d : ℕ) → i < length places → lines_at lines (take (i + 1) places) ≡ lines_at lines (take i places) ++ lines_at lines (get_or places i d ∷ [])
places_next lines places i d inside =
    let more = take_at_read places i d inside in
    ap (lines_at lines) more.1 ∙ filter_map-append (slice_get lines) (take i places) (get_or places i d ∷ [])
