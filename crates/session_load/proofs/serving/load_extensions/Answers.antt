use Rattle.std.proofs.Common.{◌∙◌, ◌+◌, ◌<◌, length, sym, subst, map, arith, get_or}
use Rattle.std.specs.Prelude.{IfSome, IfErr}
use Rattle.std.proofs.lemmas.List.{get_or-map, length-map}
use Rattle.std.proofs.lemmas.Result.{err_from_is_err_and}
use Rattle.dnr_base.specs.Faults.{Rose}
use Rattle.dnr_words.specs.Seen.{installed_seen}
use Rattle.session_load.specs.Asked.{MayAsk}
use Rattle.session_load.specs.Loads.{StopsInOne, StopsInExtensions}
use Rattle.session_load.proofs.Read.{AreLoadedSoFar, extensions_go, extensions_stop, get_or_again, no_one}
use Rattle.session_load.proofs.Stopped.{rose_since}
use Rattle.session_spec.specs.Loading.{Reads}
use Rattle.session_spec.specs.Words.{Installed}
use Rattle.session_load.proofs.serving.load_extensions.Goals as goal

pub load_one-requires : goal.load_one-requires
load_one-requires g c =
    let l = c.loop-one in
    let inside : l.one-index < length (map installed_seen c.args.installed.now) = omega (arith, length-map c.args.installed.now installed_seen, c.loop-one-test.true) in
    subst (λ k. MayAsk g.F.Shelf.allows k (installed_seen (get_or c.args.installed.now l.one-index no_one))) (sym l.invariant.files)
    (subst (λ (one : Installed). MayAsk g.F.Shelf.allows (g.F.Source.files c.args.shelf.now) one) (get_or-map installed_seen c.args.installed.now l.one-index no_one (installed_seen no_one) c.loop-one-test.true)
    (c.requires l.one-index (installed_seen no_one) inside))

pub returns-in_err-extension-clause-stops : goal.returns-in_err-extension-clause-stops
returns-in_err-extension-clause-stops g c =
    let l = c.loop-one in
    let p = err_from_is_err_and c.from_residual-in_err-extension.result c.from_residual-in_err-extension.ensures.1 in
    let known = g.F.Source.files c.args.shelf.now in
    let old = g.H.RegexHost.faults c.args.host.now in
    let mid = g.H.RegexHost.faults l.host in
    let now = g.H.RegexHost.faults c.load_one.new.host in
    let s = c.in_err-extension.field-0.0 in
    let why = subst (λ k. StopsInOne k (Rose mid now) (installed_seen (get_or c.args.installed.now l.one-index no_one)) s) l.invariant.files c.in_err-extension.ensures.stops in
    let stop = extensions_stop known (Rose mid now) (Rose old now) c.args.installed.now l.all.items l.one-index (get_or c.args.installed.now l.one-index no_one) s (rose_since old mid now l.invariant.later)
    c.loop-one-test.true (get_or_again c.args.installed.now l.one-index no_one) l.invariant.so_far why in
    subst (λ r. IfErr r (StopsInExtensions known (Rose old now) (map installed_seen c.args.installed.now))) (sym p.1)
    (subst (λ e. StopsInExtensions known (Rose old now) (map installed_seen c.args.installed.now) e) (sym p.2) stop)

pub loop-one-preserved : goal.loop-one-preserved
loop-one-preserved g c =
    let l = c.loop-one in
    let known = g.F.Source.files c.args.shelf.now in
    record {
      so_far = subst (λ all. AreLoadedSoFar known c.args.installed.now all (l.one-index + 1)) (sym c.in_ok-push.ensures.items)
          (extensions_go known c.args.installed.now l.all.items l.one-index (get_or c.args.installed.now l.one-index no_one) c.in_ok-extension.extension c.loop-one-test.true (get_or_again c.args.installed.now l.one-index no_one) l.invariant.so_far
          (subst (λ k. IfSome k (λ files. Reads files (installed_seen (get_or c.args.installed.now l.one-index no_one)) c.in_ok-extension.extension)) l.invariant.files c.in_ok-extension.ensures.reads));
      files = c.in_ok-extension.ensures.files ∙ l.invariant.files;
      left = c.in_ok-extension.ensures.left ∙ l.invariant.left;
      starts = c.in_ok-extension.ensures.starts ∙ l.invariant.starts;
      read = omega (arith, l.invariant.read, c.in_ok-extension.ensures.cause.later);
      later = omega (arith, l.invariant.later, c.in_ok-extension.ensures.later);
    }
