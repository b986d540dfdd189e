-- What a host is asked, line by line.
use Rattle.std.proofs.Common.{◌≡◌, ℕ, Bool, true, false, List, [], ◌∷◌, ◌++◌, Result, Ok, Err, length, refl, sym, ap, ◌∙◌, subst, append_assoc}
use Rattle.std.specs.Prelude.{not, nat_le, OnOk}
use Rattle.std.proofs.lemmas.Bool.{cond-true, cond-false}
use Rattle.std.proofs.lemmas.List.{append-nil}
use Rattle.regex_host.specs.Asked.{Asked, AsksFor}
use Rattle.list_spec.specs.LineKind.{FilterPattern, regex, lines_of, line_of}
use Rattle.list_spec.specs.Says.{max_regex}
use Rattle.abp_compile.specs.Asked.{asked_by, asked_at, asked_about, AsksFirst}

pub once : {S : Type 0} (asks : S → Asked → S → Type 0) (before now : S) (asked : Asked) → asks before asked now → AsksFor asks before (asked ∷ []) now
once asks before now asked h = (now, h, refl)

on : {S : Type 0} (asks : S → Asked → S → Type 0) (before then now : S) (first rest : List Asked) → AsksFor asks before first then → AsksFor asks then rest now → AsksFor asks before (first ++ rest) now
on asks before then now [] rest h e = subst (λ s. AsksFor asks s rest now) h e
on asks before then now (asked ∷ first) rest h e = (h.0, h.1, on asks h.0 then now first rest h.2 e)

pub on_ok : {T E : Type 0} (result : Result T E) (P : Type 0) → P → OnOk result P
on_ok (Ok x) P h = h
on_ok (Err e) P h = tt

-- all calls, and none of them
pub all_first : {S : Type 0} (asks : S → Asked → S → Type 0) (before now : S) (list : List Asked) → AsksFor asks before list now → AsksFirst asks before list now
all_first asks before now list h = record { made = list; left = []; cut = sym (append-nil list); asked = h }

pub none_first : {S : Type 0} (asks : S → Asked → S → Type 0) (before now : S) (list : List Asked) → now ≡ before → AsksFirst asks before list now
none_first asks before now list h = record { made = []; left = list; cut = refl; asked = h }

-- ---- a pattern

pub asked_regex : {S : Type 0} (asks : S → Asked → S → Type 0) (before now : S) (pattern : List ℕ) (match_case : Bool) (seen : FilterPattern) → seen ≡ regex pattern
    → nat_le (length pattern) max_regex ≡ true → asks before (record { pattern = pattern; fold = not match_case }) now → AsksFor asks before (asked_by seen match_case) now
asked_regex asks before now pattern match_case seen is short h =
    subst (λ list. AsksFor asks before list now) (sym (ap (λ p. asked_by p match_case) is ∙ cond-true _ _ _ short)) (once asks before now _ h)

pub long_regex : {S : Type 0} (asks : S → Asked → S → Type 0) (before : S) (pattern : List ℕ) (match_case : Bool) (seen : FilterPattern) → seen ≡ regex pattern
    → nat_le (length pattern) max_regex ≡ false → AsksFor asks before (asked_by seen match_case) before
long_regex asks before pattern match_case seen is long =
    subst (λ list. AsksFor asks before list before) (sym (ap (λ p. asked_by p match_case) is ∙ cond-false _ _ _ long)) refl

-- ---- a walk over the lines

-- the host was asked about the lines before the rest
pub record WasAsked {S : Type 0} (asks : S → Asked → S → Type 0) (before : S) (lines rest : List ℕ) (now : S) : Type 0 where
  pub made : List Asked
  pub cut : asked_about (lines_of lines) ≡ made ++ asked_about (lines_of rest)
  pub asked : AsksFor asks before made now

pub asked_begins : {S : Type 0} (asks : S → Asked → S → Type 0) (before : S) (lines : List ℕ) → WasAsked asks before lines lines before
asked_begins asks before lines = record { made = []; cut = refl; asked = refl }

module _ {S : Type 0} (asks : S → Asked → S → Type 0) (before then now : S) (lines rest line : List ℕ) (more : List (List ℕ)) where
  next_cut : (was : WasAsked asks before lines rest then) → lines_of rest ≡ line ∷ more → asked_about (lines_of lines) ≡ (was.made ++ asked_at (line_of line)) ++ asked_about more
  next_cut was cut = was.cut ∙ ap (λ l. was.made ++ asked_about l) cut ∙ sym (append_assoc was.made (asked_at (line_of line)) (asked_about more))

  pub asked_on : (later : List ℕ) → WasAsked asks before lines rest then → lines_of rest ≡ line ∷ more → more ≡ lines_of later → AsksFor asks then (asked_at (line_of line)) now
      → WasAsked asks before lines later now
  asked_on later was cut behind h = record {
    made = was.made ++ asked_at (line_of line);
    cut = next_cut was cut ∙ ap (λ l. (was.made ++ asked_at (line_of line)) ++ asked_about l) behind;
    asked = on asks before then now was.made (asked_at (line_of line)) was.asked h;
  }

  pub asked_all : WasAsked asks before lines rest then → lines_of rest ≡ line ∷ more → more ≡ [] → AsksFor asks then (asked_at (line_of line)) now
      → AsksFor asks before (asked_about (lines_of lines)) now
  asked_all was cut behind h =
      subst (λ list. AsksFor asks before list now) (sym (next_cut was cut ∙ ap (λ l. (was.made ++ asked_at (line_of line)) ++ asked_about l) behind ∙ append-nil _))
      (on asks before then now was.made (asked_at (line_of line)) was.asked h)

  pub asked_first : WasAsked asks before lines rest then → lines_of rest ≡ line ∷ more → AsksFirst asks then (asked_at (line_of line)) now
      → AsksFirst asks before (asked_about (lines_of lines)) now
  asked_first was cut h = record {
    made = was.made ++ h.made;
    left = h.left ++ asked_about more;
    cut = next_cut was cut ∙ ap (λ l. (was.made ++ l) ++ asked_about more) h.cut
        ∙ ap (λ l. l ++ asked_about more) (sym (append_assoc was.made h.made h.left)) ∙ append_assoc (was.made ++ h.made) h.left (asked_about more);
    asked = on asks before then now was.made h.made was.asked h.asked;
  }
