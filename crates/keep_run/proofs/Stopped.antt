-- How the answering of a script ends.
use Rattle.std.proofs.Common.{◌≡◌, ℕ, ◌+◌, ◌≤◌, List, Option, Result, Ok, Err, refl, sym, subst}
use Rattle.std.specs.Prelude.{IfSome, IfErr, IsErrAnd}
use Rattle.std.specs.Io.KnownBytes.{Appends, IsAtEnd}
use Rattle.dnr_io.specs.Lines.{GivesLine, IsBeyond}
use Rattle.dnr_io.specs.declared.line_refusal.LineRefusal.{LineRefusal}
use Rattle.dnr_io.specs.declared.line_refusal.LineRefusal.TheVariants as refusal
use Rattle.dnr_spec.specs.Lines.{max_lines}
use Rattle.keep_spec.specs.Agrees.{Sound}
use Rattle.keep_spec.specs.Kept.{Kept}
use Rattle.keep_run_spec.specs.Ends.{between, Begins, LosesNothing}
use Rattle.keep_run.specs.declared.stop.KeepStop.{KeepStop}
use Rattle.keep_run.specs.declared.stop.KeepStop.TheVariants as stop
use Rattle.keep_run.specs.Lines.{StopsAtLine, AreLines, Wrote, EndsLines}
use Rattle.keep_run.specs.Stops.{stop_of_reading}
use Rattle.keep_run.proofs.Answered.{SoFar, wrote_first, wrote_all, wrote_short, wrote_part, later_host}

-- a file stays sound for the extension by either name of it
pub sound_on : (name was : List ℕ) (middle now : List ℕ → Type 0) → was ≡ name → (Sound was middle → Sound was now) → Sound name middle → Sound name now
sound_on name was middle now same on sound = subst (λ (n : List ℕ). Sound n now) same (on (subst (λ (n : List ℕ). Sound n middle) (sym same) sound))

-- what is said of an error
pub err_so : (P Q : KeepStop → Type 0) (result : Result (Unit {0}) KeepStop) → IsErrAnd result P → ((why : KeepStop) → P why → Q why) → IfErr result Q
err_so P Q (Ok done) is each = absurd is
err_so P Q (Err why) is each = each why is

pub stop_so : (Ends : Result (Unit {0}) KeepStop → Type 0) (P : KeepStop → Type 0) (result : Result (Unit {0}) KeepStop) → IsErrAnd result P
    → ((why : KeepStop) → P why → Ends (Err why)) → Ends result
stop_so Ends P (Ok done) is each = absurd is
stop_so Ends P (Err why) is each = each why is

module _ (first : Kept) (before now : Option (List ℕ)) (was is : ℕ) (known rest : Option (List ℕ)) (count : ℕ) (keep : Kept) (images : List ℕ → Type 0)
    (so_far : SoFar first before now was is known rest count keep) (safe : LosesNothing images keep) where
  -- no line is read any more
  pub ends_reading : (why : LineRefusal) → (why ≡ refusal.LineTooLong → IfSome rest (IsBeyond count)) → EndsLines known before now (between was is) first images (Err (stop_of_reading why))
  ends_reading refusal.ReadFault beyond = (keep, wrote_first first before now was is known rest count keep so_far, safe)
  ends_reading refusal.LineTooLong beyond = (keep, wrote_short first before now was is known rest count keep so_far (beyond refl), safe)
  ends_reading refusal.NoMemory beyond = (keep, wrote_first first before now was is known rest count keep so_far, safe)

  -- no memory is left before the first line
  pub ends_early : EndsLines known before now (between was is) first images (Err stop.NoMemory)
  ends_early = (keep, wrote_first first before now was is known rest count keep so_far, safe)

  pub ends_whole : count ≤ max_lines → IsAtEnd rest → EndsLines known before now (between was is) first images (Ok tt)
  ends_whole few end = (keep, wrote_all first before now was is known rest count keep so_far few end, safe)

module _ (first : Kept) (before middle now : Option (List ℕ)) (was at is : ℕ) (known rest left : Option (List ℕ)) (count number : ℕ) (keep : Kept) (line : List ℕ) (images : List ℕ → Type 0)
    (place : number ≡ count + 1) (later : at ≤ is) (so_far : SoFar first before middle was at known rest count keep) (gives : GivesLine rest left line) where
  so_far_first : now ≡ middle → Wrote (AreLines Begins known) (Appends before now) (between was is) first keep
  so_far_first same =
      subst (λ (t : Option (List ℕ)). Wrote (AreLines Begins known) (Appends before t) (between was is) first keep) (sym same)
      (later_host (AreLines Begins known) (Appends before middle) was at is first keep later (wrote_first first before middle was at known rest count keep so_far))

  -- a line is not answered and written whole
  pub ends_at_line : (why : KeepStop) → StopsAtLine (between at is) keep number line images middle now why → EndsLines known before now (between was is) first images (Err why)
  ends_at_line stop.ReadFault stops = absurd stops
  ends_at_line stop.WriteFault stops = (stops.0, wrote_part first before middle now was at is known rest left count number keep stops.0 line place so_far gives stops.1, stops.2)
  ends_at_line stop.DiskFault stops = (keep, so_far_first stops.0, stops.1)
  ends_at_line stop.TooLong stops = absurd stops
  ends_at_line stop.NoMemory stops = (keep, so_far_first stops.0, stops.1)
