-- A script whose lines are answered up to some line.
use Rattle.std.proofs.Common.{◌≡◌, ◌⊎◌, ℕ, suc, ◌+◌, ◌≤◌, List, [], ◌∷◌, ◌++◌, length, true, Option, Some, None, Result, Ok, Err, refl, sym, ap, ◌∙◌, inl, inr, subst, arith, append_assoc, append-nil, length-append}
use Rattle.std.specs.Prelude.{IfSome}
use Rattle.std.specs.Io.KnownBytes.{Appends, IsAtEnd, prepend_known}
use Rattle.dnr_base.specs.Faults.{Count}
use Rattle.dnr_io.specs.Lines.{Reading, ahead, GivesLine, IsBeyond}
use Rattle.dnr_io.specs.Sink.{AppendsPart}
use Rattle.dnr_io.proofs.ReadSoFar.{ReadSoFar, none_read, one_read, all_read, all_within, is_beyond}
use Rattle.dnr_spec.specs.Lines.{lines_of, is_within_limits, max_lines}
use Rattle.session_spec.specs.Answers.{RisesBy}
use Rattle.keep_spec.specs.Kept.{Kept}
use Rattle.keep_run_spec.specs.Answers.{Told, LinesSay, told_line, told_text, count_host_faults}
use Rattle.keep_run_spec.specs.Ends.{between, Begins, BeginsShort, IsWhole}
use Rattle.keep_run_spec.proofs.GoesOn.{said_after, one_said, as_many, text_after, faults_after}
use Rattle.keep_run.specs.Lines.{LineTold, LineWritten, AreLines, Wrote}

-- So many lines of the script were answered, and the rest is ahead; the count of the host's faults was this at first, and is
-- that now.
pub record SoFar (first : Kept) (before now : Option (List ℕ)) (was is : ℕ) (known rest : Option (List ℕ)) (count : ℕ) (keep : Kept) : Type 0 where
  pub lines : List (List ℕ)
  pub read : ReadSoFar known rest lines count
  pub many : length lines ≡ count
  pub told : List Told
  pub says : LinesSay first 1 lines told keep
  pub taken : Appends before now (told_text 1 told)
  pub rises : RisesBy (count_host_faults told) (between was is)

appends_append : (a b c : Option (List ℕ)) (xs ys : List ℕ) → Appends a b xs → Appends b c ys → Appends a c (xs ++ ys)
appends_append None b c xs ys p q = tt
appends_append (Some a) None c xs ys p q = absurd p
appends_append (Some a) (Some b) None xs ys p q = absurd q
appends_append (Some a) (Some b) (Some c) xs ys p q = q ∙ ap (λ l. l ++ ys) p ∙ append_assoc a xs ys

pub appends_nothing : (a : Option (List ℕ)) → Appends a a []
appends_nothing None = tt
appends_nothing (Some a) = sym (append-nil a)

pub appends_more : (a b c : Option (List ℕ)) (xs ys : List ℕ) → Appends a b xs → Appends b c ys → Appends a c (xs ++ ys)
appends_more = appends_append

-- a part of what is behind bytes that were taken
pub part_behind : (a b c : Option (List ℕ)) (xs ys : List ℕ) → Appends a b xs → AppendsPart b c ys → AppendsPart a c (xs ++ ys)
part_behind a b c xs ys first part = record {
  sent = xs ++ part.sent;
  rest = part.rest;
  split = ap (λ l. xs ++ l) part.split ∙ sym (append_assoc xs part.sent part.rest);
  taken = appends_append a b c xs part.sent first part.taken;
}

-- ---- the beginning

pub begun : (first : Kept) (before : Option (List ℕ)) (was : ℕ) (known : Option (List ℕ)) → SoFar first before before was was known (prepend_known [] known) 0 first
begun first before was known = record {
  lines = [];
  read = none_read known;
  many = refl;
  told = [];
  says = (refl, refl);
  taken = appends_nothing before;
  rises = omega arith;
}

pub started : (first : Kept) (before : Option (List ℕ)) (was : ℕ) (known : Option (List ℕ)) (lines : Reading) → lines ≡ record { pending = []; count = 0; live = true }
    → SoFar first before before was was known (ahead lines known) lines.count first
started first before was known lines fresh =
    subst (λ (l : Reading). SoFar first before before was was known (ahead l known) l.count first) (sym fresh) (begun first before was known)

-- ---- one line more

-- what is said with one line more, of which this was taken
pub record OneMore (Taken : List ℕ → Type 0) (first : Kept) (lines : List (List ℕ)) (was is : ℕ) (keep : Kept) : Type 0 where
  pub told : List Told
  pub says : LinesSay first 1 lines told keep
  pub taken : Taken (told_text 1 told)
  pub rises : RisesBy (count_host_faults told) (between was is)

risen : (m n was at is : ℕ) → RisesBy m (between was at) → RisesBy n (between at is) → RisesBy (m + n) (between was is)
risen m n was at is p q = omega (arith, p, q)

one_more : (Taken Part : List ℕ → Type 0) (first : Kept) (before now : Option (List ℕ)) (was at is : ℕ) (known rest : Option (List ℕ)) (count number : ℕ) (keep next : Kept) (line : List ℕ)
    → number ≡ count + 1 → (so_far : SoFar first before now was at known rest count keep) → ((xs ys : List ℕ) → Appends before now xs → Part ys → Taken (xs ++ ys))
    → LineWritten Part (between at is) keep number line next → OneMore Taken first (so_far.lines ++ line ∷ []) was is next
one_more Taken Part first before now was at is known rest count number keep next line place so_far joins written =
    let told = so_far.told ++ written.told.told ∷ [] in
    let here : number ≡ 1 + length so_far.lines = omega (arith, place, so_far.many) in
    let there : 1 + length so_far.told ≡ number = omega (arith, here, as_many first keep 1 so_far.lines so_far.told so_far.says) in
    let text : told_text 1 told ≡ told_text 1 so_far.told ++ written.text =
    text_after 1 so_far.told (written.told.told ∷ [])
    ∙ ap (λ (n : ℕ). told_text 1 so_far.told ++ told_text n (written.told.told ∷ [])) there
    ∙ ap (λ t. told_text 1 so_far.told ++ t) (append-nil (told_line number written.told.told) ∙ sym written.told.text_is) in
    record {
      told = told;
      says = said_after first keep next 1 so_far.lines (line ∷ []) so_far.told (written.told.told ∷ []) so_far.says
          (subst (λ (n : ℕ). LinesSay keep n (line ∷ []) (written.told.told ∷ []) next) here (one_said keep next number line written.told.told written.told.says));
      taken = subst Taken (sym text) (joins (told_text 1 so_far.told) written.text so_far.taken written.taken);
      rises = subst (λ (n : ℕ). RisesBy n (between was is)) (sym (faults_after so_far.told (written.told.told ∷ [])))
          (risen (count_host_faults so_far.told) (count_host_faults (written.told.told ∷ [])) was at is so_far.rises written.told.rises);
    }

pub answered_more : (first : Kept) (before middle now : Option (List ℕ)) (was at is : ℕ) (known rest left : Option (List ℕ)) (count later number : ℕ) (keep next : Kept) (line : List ℕ)
    → number ≡ count + 1 → later ≡ count + 1 → SoFar first before middle was at known rest count keep → GivesLine rest left line
    → LineWritten (Appends middle now) (between at is) keep number line next → SoFar first before now was is known left later next
answered_more first before middle now was at is known rest left count later number keep next line place up so_far gives written =
    let more = one_more (Appends before now) (Appends middle now) first before middle was at is known rest count number keep next line place so_far
    (λ xs ys p q. appends_append before middle now xs ys p q) written in
    record {
      lines = so_far.lines ++ line ∷ [];
      read = one_read known rest left so_far.lines count later line so_far.read gives up;
      many = omega (arith, length-append so_far.lines (line ∷ []), so_far.many, up);
      told = more.told;
      says = more.says;
      taken = more.taken;
      rises = more.rises;
    }

-- ---- how it ends

-- the lines so far are the first ones
pub first_lines : (known rest : Option (List ℕ)) (lines : List (List ℕ)) (count : ℕ) → ReadSoFar known rest lines count → AreLines Begins known lines
first_lines None rest lines count read = tt
first_lines (Some script) None lines count read = absurd read
first_lines (Some script) (Some rest) lines count read = (_, record { raws = read.raws; split = read.first; short = read.short; texts = read.texts })

whole_lines : (known rest : Option (List ℕ)) (lines : List (List ℕ)) (count : ℕ) → count ≤ max_lines → IsAtEnd rest → ReadSoFar known rest lines count → AreLines IsWhole known lines
whole_lines None rest lines count few end read = tt
whole_lines (Some script) rest lines count few end read =
    (all_within (Some script) rest lines count read end few, all_read (Some script) rest lines count read end)

short_lines : (known rest : Option (List ℕ)) (lines : List (List ℕ)) (count : ℕ) → IfSome rest (IsBeyond count) → ReadSoFar known rest lines count → AreLines BeginsShort known lines
short_lines None rest lines count beyond read = tt
short_lines (Some script) rest lines count beyond read =
    (is_beyond (Some script) rest lines count read beyond, first_lines (Some script) rest lines count read)

written_so : (Lines : List (List ℕ) → Type 0) (first : Kept) (before now : Option (List ℕ)) (was is : ℕ) (known rest : Option (List ℕ)) (count : ℕ) (keep : Kept)
    → (so_far : SoFar first before now was is known rest count keep) → Lines so_far.lines → Wrote Lines (Appends before now) (between was is) first keep
written_so Lines first before now was is known rest count keep so_far are = record {
  lines = so_far.lines;
  are = are;
  told = so_far.told;
  says = so_far.says;
  taken = so_far.taken;
  rises = so_far.rises;
}

module _ (first : Kept) (before now : Option (List ℕ)) (was is : ℕ) (known rest : Option (List ℕ)) (count : ℕ) (keep : Kept) (so_far : SoFar first before now was is known rest count keep) where
  pub wrote_first : Wrote (AreLines Begins known) (Appends before now) (between was is) first keep
  wrote_first = written_so (AreLines Begins known) first before now was is known rest count keep so_far (first_lines known rest so_far.lines count so_far.read)

  pub wrote_all : count ≤ max_lines → IsAtEnd rest → Wrote (AreLines IsWhole known) (Appends before now) (between was is) first keep
  wrote_all few end = written_so (AreLines IsWhole known) first before now was is known rest count keep so_far (whole_lines known rest so_far.lines count few end so_far.read)

  pub wrote_short : IfSome rest (IsBeyond count) → Wrote (AreLines BeginsShort known) (Appends before now) (between was is) first keep
  wrote_short beyond = written_so (AreLines BeginsShort known) first before now was is known rest count keep so_far (short_lines known rest so_far.lines count beyond so_far.read)

-- nothing of the host changed since
pub later_host : (Lines : List (List ℕ) → Type 0) (Taken : List ℕ → Type 0) (was at is : ℕ) (first last : Kept) → at ≤ is
    → Wrote Lines Taken (between was at) first last → Wrote Lines Taken (between was is) first last
later_host Lines Taken was at is first last later wrote = record {
  lines = wrote.lines;
  are = wrote.are;
  told = wrote.told;
  says = wrote.says;
  taken = wrote.taken;
  rises = omega (arith, later, wrote.rises);
}

-- the answer to the line is cut
pub wrote_part : (first : Kept) (before middle now : Option (List ℕ)) (was at is : ℕ) (known rest left : Option (List ℕ)) (count number : ℕ) (keep next : Kept) (line : List ℕ)
    → number ≡ count + 1 → (so_far : SoFar first before middle was at known rest count keep) → GivesLine rest left line
    → LineWritten (AppendsPart middle now) (between at is) keep number line next → Wrote (AreLines Begins known) (AppendsPart before now) (between was is) first next
wrote_part first before middle now was at is known rest left count number keep next line place so_far gives written =
    let more = one_more (AppendsPart before now) (AppendsPart middle now) first before middle was at is known rest count number keep next line place so_far
    (λ xs ys p q. part_behind before middle now xs ys p q) written in
    record {
      lines = so_far.lines ++ line ∷ [];
      are = first_lines known left (so_far.lines ++ line ∷ []) (count + 1) (one_read known rest left so_far.lines count (count + 1) line so_far.read gives refl);
      told = more.told;
      says = more.says;
      taken = more.taken;
      rises = more.rises;
    }
