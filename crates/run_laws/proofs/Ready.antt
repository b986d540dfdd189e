-- What is read is not refused, and is the same whenever it is read.
use Rattle.std.proofs.Common.{◌≡◌, ◌⊎◌, ℕ, ◌≤◌, List, [], ◌∷◌, length, true, false, Option, Some, None, refl, sym, ap, ◌∙◌, inl, inr, subst, arith}
use Rattle.std.specs.List.{AllZip}
use Rattle.dnr_base.specs.Faults.{Rose}
use Rattle.dnr_spec.specs.Suffixes.{SuffixRule}
use Rattle.dnr_spec.specs.declared.status.Status.{Status}
use Rattle.dnr_spec.specs.declared.status.Status.TheVariants as status
use Rattle.rule_spec.specs.State.{State}
use Rattle.rule_spec.specs.declared.rule_kind.RuleKind.{RuleKind}
use Rattle.rule_spec.specs.declared.rule_kind.RuleKind.TheVariants.{Static}
use Rattle.rule_spec.specs.Rule.{Rule}
use Rattle.list_spec.specs.LineKind as lists
use Rattle.json_spec.specs.RulesFile.{FileRefusal, max_file}
use Rattle.compile_spec.specs.Compiled.{CompiledRule, max_compiled, compiled}
use Rattle.hide_spec.specs.Hidden.{hiding_lines, max_hiding}
use Rattle.prune_spec.specs.Pruned.{max_rules}
use Rattle.compile_spec.specs.Installed.{new_list}
use Rattle.update_spec.specs.Update.{NewRuleSet, NewExtension}
use Rattle.load_spec.specs.Manifest.{Resource, Manifest}
use Rattle.load_spec.specs.Files.{Files, HoldsLongFile, HoldsRules, BreaksForm, StopsAtHost}
use Rattle.load_spec.specs.Extensions.{file_in, manifest_name, set_of, extension_of, HoldsSet, HoldsManifest, HoldsExtension, EndsAtOne, RefusedFile, BreaksSet, RefusesExtension, HasLongFile}
use Rattle.session_spec.specs.Refusals.{too_many_rules, host_failed, ListRefusal}
use Rattle.session_spec.specs.Words.{Installed, folder, list, Task, match_files, follow_files, check_file, compile_file, serve_script, make_sample, hide_page, prune_file}
use Rattle.session_spec.specs.Loading.{PrintsRefusedRules, HoldsList, IsRefusedList, PrintsRefusedList, Reads, Refuses, IsTooLong, ReadsSuffixes, RefusesSuffixes, IsLongSuffixFile, Loaded}
use Rattle.session_spec.specs.Out.{Outside, HostRose, Session, of_rules, of_words, LoadsFor, loaded_with, Opens, HoldsScript, HoldsTooMuch, RefusesSession, RefusesFileOf, HasLongFileOf, IsCounted, IsCompiled, in_rounds, at_once, EndsBy, EndsFor}
use Rattle.session_spec.specs.Hiding.{IsHidden, HidesTooMuch}
use Rattle.session_spec.specs.Pruning.{IsPruned, RefusesPruning}
use Rattle.session_spec.specs.Sample.{IsSampled}
use Rattle.run_laws.specs.Ready.{SessionIsReady, IsReady}
use Rattle.run_laws.specs.Laws.{CommandsComplete}
use Rattle.session_laws.proofs.Laws.{sessions_complete}

-- ---- one file

pub same_file : (files : Files) (name one other : List ℕ) → files name ≡ Some one → files name ≡ Some other → one ≡ other
same_file files name one other is as_well = let both : Some one ≡ Some other = sym is ∙ as_well in cc both

same_rules : (files : Files) (kind : RuleKind) (name : List ℕ) (one other : List Rule) → HoldsRules files kind name one → HoldsRules files kind name other → one ≡ other
same_rules files kind name one other a b =
    let read = a.read in let as_well = b.read in let file = same_file files name a.file b.file a.held b.held in cc (read, as_well, file)

forms_hold : (files : Files) (rose : Type 0) (kind : RuleKind) (name : List ℕ) (refusal : FileRefusal) (rules : List Rule) → (rose → ⊥) → HoldsRules files kind name rules
    → BreaksForm files kind name refusal ⊎ (rose × StopsAtHost files kind name refusal) → ⊥
forms_hold files rose kind name refusal rules calm held (inl broken) =
    let read = held.read in let as_well = broken.read in let file = same_file files name held.file broken.file held.held broken.held in absurd (cc (read, as_well, file))
forms_hold files rose kind name refusal rules calm held (inr stops) = calm stops.0

not_long : (files : Files) (name file : List ℕ) → files name ≡ Some file → length file ≤ max_file → HoldsLongFile files name → ⊥
not_long files name file held short long = omega (arith, short, long.long, ap (λ (f : List ℕ). length f) (same_file files name file long.file held long.held))

same_suffixes : (files : Files) (name : Option (List ℕ)) (one other : List SuffixRule) → ReadsSuffixes files name one → ReadsSuffixes files name other → one ≡ other
same_suffixes files None one other a b = a ∙ sym b
same_suffixes files (Some name) one other a b =
    let read = a.read in let as_well = b.read in let file = same_file files name a.file b.file a.held b.held in cc (read, as_well, file)

suffixes_hold : (files : Files) (line : List ℕ) (name : Option (List ℕ)) (rules : List SuffixRule) → ReadsSuffixes files name rules → RefusesSuffixes files line name → ⊥
suffixes_hold files line None rules held refused = refused
suffixes_hold files line (Some name) rules held refused =
    let read = held.read in let as_well = refused.broken.read in let file = same_file files name held.file refused.broken.file held.held refused.broken.held in absurd (cc (read, as_well, file))

suffixes_short : (files : Files) (name : Option (List ℕ)) (rules : List SuffixRule) → ReadsSuffixes files name rules → IsLongSuffixFile files name → ⊥
suffixes_short files None rules held long = long
suffixes_short files (Some name) rules held long = not_long files name held.file held.held held.short long

-- ---- several, read in order

none_ends : {X Y : Type 0} (R : X → Y → Type 0) (Ends : X → Type 0) (xs : List X) (ys : List Y) → ((x : X) (y : Y) → R x y → Ends x → ⊥) → AllZip R xs ys → EndsAtOne R Ends xs → ⊥
none_ends R Ends [] ys apart all ends = ends
none_ends R Ends (x ∷ xs) [] apart all ends = all
none_ends R Ends (x ∷ xs) (y ∷ ys) apart all (inl here) = apart x y all.0 here
none_ends R Ends (x ∷ xs) (y ∷ ys) apart all (inr later) = none_ends R Ends xs ys apart all.1 later.2

same_all : {X Y : Type 0} (R : X → Y → Type 0) (xs : List X) (ys zs : List Y) → ((x : X) (y z : Y) → R x y → R x z → y ≡ z) → AllZip R xs ys → AllZip R xs zs → ys ≡ zs
same_all R [] [] [] once all as_well = refl
same_all R [] [] (z ∷ zs) once all as_well = absurd as_well
same_all R [] (y ∷ ys) zs once all as_well = absurd all
same_all R (x ∷ xs) [] zs once all as_well = absurd all
same_all R (x ∷ xs) (y ∷ ys) [] once all as_well = absurd as_well
same_all R (x ∷ xs) (y ∷ ys) (z ∷ zs) once all as_well =
    let first = once x y z all.0 as_well.0 in let others = same_all R xs ys zs once all.1 as_well.1 in cc (first, others)

-- ---- extensions

same_manifest : (files : Files) (name : List ℕ) (one other : Manifest) → HoldsManifest files name one → HoldsManifest files name other → one ≡ other
same_manifest files name one other a b =
    let read = a.read in let as_well = b.read in let file = same_file files (manifest_name name) a.bytes b.bytes a.file.held b.file.held in cc (read, as_well, file)

same_set : (files : Files) (name : List ℕ) (resource : Resource) (one other : NewRuleSet) → HoldsSet files name resource one → HoldsSet files name resource other → one ≡ other
same_set files name resource one other a b =
    a.same ∙ ap (set_of resource) (same_rules files Static (file_in name resource.path) a.rules b.rules a.loaded b.loaded) ∙ sym b.same

same_sets : (files : Files) (name : List ℕ) (one other : Manifest) (sets as_well : List NewRuleSet) → one ≡ other → AllZip (HoldsSet files name) one.resources sets → AllZip (HoldsSet files name) other.resources as_well → sets ≡ as_well
same_sets files name one other sets as_well same a b =
    same_all (HoldsSet files name) one.resources sets as_well (same_set files name) a (subst (λ (m : Manifest). AllZip (HoldsSet files name) m.resources as_well) (sym same) b)

same_extension : (files : Files) (one : Installed) (extension other : NewExtension) → Reads files one extension → Reads files one other → extension ≡ other
same_extension files (folder name) extension other a b =
    let manifest = same_manifest files name a.manifest b.manifest a.held b.held in
    a.same ∙ ap (λ (m : Manifest). extension_of name a.sets m.access) manifest
    ∙ ap (λ sets. extension_of name sets b.manifest.access) (same_sets files name a.manifest b.manifest a.sets b.sets manifest a.loaded b.loaded) ∙ sym b.same
same_extension files (list name file) extension other a b =
    let bytes = same_file files file a.bytes b.bytes a.held.file.held b.held.file.held in
    let rules : a.rules ≡ b.rules = a.held.same ∙ ap (λ bs. compiled (lists.lines_of bs)) bytes ∙ sym b.held.same in
    a.same ∙ ap (new_list name) rules ∙ sym b.same

sets_end : (files : Files) (name : List ℕ) (manifest other : Manifest) (sets : List NewRuleSet) (Ends : Resource → Type 0) → manifest ≡ other
    → ((resource : Resource) (set : NewRuleSet) → HoldsSet files name resource set → Ends resource → ⊥)
    → AllZip (HoldsSet files name) manifest.resources sets → EndsAtOne (HoldsSet files name) Ends other.resources → ⊥
sets_end files name manifest other sets Ends same apart all ends =
    none_ends (HoldsSet files name) Ends manifest.resources sets apart all (subst (λ (m : Manifest). EndsAtOne (HoldsSet files name) Ends m.resources) (sym same) ends)

extension_holds : (files : Files) (rose : Type 0) (name : List ℕ) (extension : NewExtension) (refused : RefusedFile) → (rose → ⊥) → HoldsExtension files name extension → RefusesExtension files rose name refused → ⊥
extension_holds files rose name extension refused calm held (inl broken) =
    let read = held.held.read in let as_well = broken.read in let file = same_file files (manifest_name name) held.held.bytes broken.bytes held.held.file.held broken.file.held in absurd (cc (read, as_well, file))
extension_holds files rose name extension refused calm held (inr ends) =
    sets_end files name held.manifest ends.manifest held.sets (BreaksSet files rose name refused) (same_manifest files name held.manifest ends.manifest held.held ends.held)
    (λ resource set holds breaks. forms_hold files rose Static (file_in name resource.path) breaks.refusal holds.rules calm holds.loaded breaks.broken) held.loaded ends.first

extension_short : (files : Files) (name : List ℕ) (extension : NewExtension) → HoldsExtension files name extension → HasLongFile files name → ⊥
extension_short files name extension held (inl long) = not_long files (manifest_name name) held.held.bytes held.held.file.held held.held.file.short long
extension_short files name extension held (inr ends) =
    sets_end files name held.manifest ends.manifest held.sets (λ resource. HoldsLongFile files (file_in name resource.path)) (same_manifest files name held.manifest ends.manifest held.held ends.held)
    (λ resource set holds long. not_long files (file_in name resource.path) holds.loaded.file holds.loaded.held holds.loaded.short long) held.loaded ends.first

-- ---- filter lists

few_enough : (rose : Type 0) (bytes : List ℕ) (rules : List CompiledRule) (refusal : ListRefusal) → (rose → ⊥) → length rules ≤ max_compiled → rules ≡ compiled (lists.lines_of bytes) → IsRefusedList rose bytes refusal → ⊥
few_enough rose bytes rules (too_many_rules count) calm few same refused = omega (arith, few, refused.0, refused.1, ap (λ (rs : List CompiledRule). length rs) same)
few_enough rose bytes rules (host_failed line) calm few same refused = calm refused.0

list_holds : (files : Files) (rose : Type 0) (name line bytes : List ℕ) (rules : List CompiledRule) → (rose → ⊥) → HoldsList files name bytes rules → PrintsRefusedList files rose name line → ⊥
list_holds files rose name line bytes rules calm held refused =
    few_enough rose bytes rules refused.refusal calm held.few held.same
    (subst (λ (bs : List ℕ). IsRefusedList rose bs refused.refusal) (same_file files name refused.cause.bytes bytes refused.cause.file.held held.file.held) refused.cause.refused)

-- ---- element hiding

hiding_holds : (files : Files) (name line bytes : List ℕ) → files name ≡ Some bytes → length (hiding_lines (lists.lines_of bytes)) ≤ max_hiding → HidesTooMuch files name line → ⊥
hiding_holds files name line bytes held few refused =
    omega (arith, few, refused.beyond, ap (λ (bs : List ℕ). length (hiding_lines (lists.lines_of bs))) (same_file files name bytes refused.bytes held refused.file.held))

-- ---- pruning

pruning_holds : (files : Files) (rose : Type 0) (name line : List ℕ) (rules : List Rule) → (rose → ⊥) → HoldsRules files Static name rules → length rules ≤ max_rules → RefusesPruning files rose name line → ⊥
pruning_holds files rose name line rules calm held few (inl refused) = forms_hold files rose Static name refused.refusal rules calm held refused.broken
pruning_holds files rose name line rules calm held few (inr refused) =
    omega (arith, few, refused.beyond, ap (λ (rs : List Rule). length rs) (same_rules files Static name rules refused.rules held refused.loaded))

-- ---- what a session reads

installed_holds : (files : Files) (rose : Type 0) (line : List ℕ) → (rose → ⊥) → (one : Installed) (extension : NewExtension) → Reads files one extension → Refuses files rose line one → ⊥
installed_holds files rose line calm (folder name) extension held refused = extension_holds files rose name extension refused.refused calm held refused.cause
installed_holds files rose line calm (list name file) extension held refused = list_holds files rose file line held.bytes held.rules calm held.held refused

installed_short : (files : Files) (one : Installed) (extension : NewExtension) → Reads files one extension → IsTooLong files one → ⊥
installed_short files (folder name) extension held long = extension_short files name extension held long
installed_short files (list name file) extension held long = not_long files file held.bytes held.held.file.held held.held.file.short long

session_holds : (files : Files) (outside : Outside) (session : Session) (loaded : Loaded) (line : List ℕ) → (HostRose outside 0 → ⊥) → LoadsFor files session loaded → RefusesFileOf files outside session line → ⊥
session_holds files outside (of_rules follows name) loaded line calm held refused =
    forms_hold files (HostRose outside 0) Static name refused.refusal held.0 calm held.1 refused.broken
session_holds files outside (of_words serving) loaded line calm held (inl refused) = suffixes_hold files line serving.suffixes loaded.suffixes held.suffixes refused
session_holds files outside (of_words serving) loaded line calm held (inr ends) =
    none_ends (Reads files) (Refuses files (HostRose outside 0) line) serving.installed loaded.extensions (installed_holds files (HostRose outside 0) line calm) held.extensions ends.first

session_short : (files : Files) (session : Session) (loaded : Loaded) → LoadsFor files session loaded → HasLongFileOf files session → ⊥
session_short files (of_rules follows name) loaded held long = not_long files name held.1.file held.1.held held.1.short long
session_short files (of_words serving) loaded held (inl long) = suffixes_short files serving.suffixes loaded.suffixes held.suffixes long
session_short files (of_words serving) loaded held (inr ends) =
    none_ends (Reads files) (IsTooLong files) serving.installed loaded.extensions (installed_short files) held.extensions ends.first

-- what is read is the same whenever it is read
same_loaded : (files : Files) (session : Session) (one other : Loaded) → LoadsFor files session one → LoadsFor files session other → one ≡ other
same_loaded files (of_rules follows name) one other a b = a.2 ∙ ap loaded_with (same_rules files Static name a.0 b.0 a.1 b.1) ∙ sym b.2
same_loaded files (of_words serving) one other a b =
    let suffixes = same_suffixes files serving.suffixes one.suffixes other.suffixes a.suffixes b.suffixes in
    let extensions = same_all (Reads files) serving.installed one.extensions other.extensions (same_extension files) a.extensions b.extensions in
    ap (λ s. record { suffixes = s; extensions = one.extensions }) suffixes ∙ ap (λ es. record { suffixes = other.suffixes; extensions = es }) extensions

not_refused : (files : Files) (outside : Outside) (session : Session) (loaded : Loaded) (first : State) (line : List ℕ) → (HostRose outside 0 → ⊥) → Opens files session loaded first → RefusesSession files outside session line → ⊥
not_refused files outside session loaded first line calm opens (inl refused) = session_holds files outside session loaded line calm opens.read refused
not_refused files outside session loaded first line calm opens (inr refused) =
    let same = same_loaded files session loaded refused.loaded opens.read refused.read in
    let installs = opens.installed in let refuses = refused.judged in absurd (cc (same, installs, refuses))

within : (files : Files) (name script other : List ℕ) → HoldsScript files name script → HoldsTooMuch files name other → ⊥
within files name script other holds beyond =
    let same = same_file files name script other holds.held beyond.held in
    let short = holds.within in let long = beyond.beyond in absurd (cc (same, short, long))

-- ---- commands

session_completes : (files : Files) (outside : Outside) (session : Session) (name : List ℕ) (ended : Status) (written : List ℕ) → (Rose outside.shelf.before outside.shelf.now → ⊥) → (Rose outside.sink.before outside.sink.now → ⊥)
    → (HostRose outside 0 → ⊥) → SessionIsReady files session name → EndsBy outside (in_rounds files outside session name) ended written → (ended ≡ status.Done) ⊎ (ended ≡ status.NoMemory)
session_completes files outside session name ended written shelf sink calm ready ends =
    sessions_complete files outside session name ended written shelf sink (λ line refused. not_refused files outside session ready.loaded ready.first line calm ready.opens refused)
    (λ long. session_short files session ready.loaded ready.opens.read long) (λ script beyond. within files name ready.script script ready.holds beyond) ends

-- a command that writes one text
at_once_completes : (outside : Outside) (Done Refused : List ℕ → Type 0) (TooLong : Type 0) (ended : Status) (written : List ℕ) → (Rose outside.shelf.before outside.shelf.now → ⊥) → (Rose outside.sink.before outside.sink.now → ⊥)
    → ((line : List ℕ) → Refused line → ⊥) → (TooLong → ⊥) → EndsBy outside (at_once Done Refused TooLong) ended written → (ended ≡ status.Done) ⊎ (ended ≡ status.NoMemory)
at_once_completes outside Done Refused TooLong status.Done written shelf sink accepted short ends = inl refl
at_once_completes outside Done Refused TooLong status.Refused written shelf sink accepted short ends = absurd (accepted written ends)
at_once_completes outside Done Refused TooLong status.Usage written shelf sink accepted short ends = absurd ends
at_once_completes outside Done Refused TooLong status.ReadFault written shelf sink accepted short ends = absurd (shelf ends.0)
at_once_completes outside Done Refused TooLong status.WriteFault written shelf sink accepted short ends = absurd (sink ends.0)
at_once_completes outside Done Refused TooLong status.NoMemory written shelf sink accepted short ends = inr refl
at_once_completes outside Done Refused TooLong status.FileTooLong written shelf sink accepted short ends = absurd (short ends.0)
at_once_completes outside Done Refused TooLong status.DiskFault written shelf sink accepted short ends = absurd ends

task_completes : (task : Task) (files : Files) (outside : Outside) (ended : Status) (written : List ℕ) → (Rose outside.shelf.before outside.shelf.now → ⊥) → (Rose outside.sink.before outside.sink.now → ⊥)
    → (HostRose outside 0 → ⊥) → IsReady files task → EndsFor files outside (Some task) ended written → (ended ≡ status.Done) ⊎ (ended ≡ status.NoMemory)
task_completes (match_files rules script) files outside ended written shelf sink calm ready ends = session_completes files outside (of_rules false rules) script ended written shelf sink calm ready ends
task_completes (follow_files rules script) files outside ended written shelf sink calm ready ends = session_completes files outside (of_rules true rules) script ended written shelf sink calm ready ends
task_completes (check_file kind name) files outside ended written shelf sink calm ready ends =
    at_once_completes outside (IsCounted files kind name) (PrintsRefusedRules files (HostRose outside 0) kind name) (HoldsLongFile files name) ended written shelf sink
    (λ line refused. forms_hold files (HostRose outside 0) kind name refused.refusal ready.rules calm ready.held refused.broken)
    (λ long. not_long files name ready.held.file ready.held.held ready.held.short long) ends
task_completes (compile_file name) files outside ended written shelf sink calm ready ends =
    at_once_completes outside (IsCompiled files name) (PrintsRefusedList files (HostRose outside 0) name) (HoldsLongFile files name) ended written shelf sink
    (λ line refused. list_holds files (HostRose outside 0) name line ready.bytes ready.rules calm ready.held refused)
    (λ long. not_long files name ready.bytes ready.held.file.held ready.held.file.short long) ends
task_completes (serve_script serving) files outside ended written shelf sink calm ready ends = session_completes files outside (of_words serving) serving.script ended written shelf sink calm ready ends
task_completes (make_sample sample) files outside ended written shelf sink calm ready ends =
    at_once_completes outside (IsSampled sample) (λ written. ⊥) ⊥ ended written shelf sink (λ line refused. refused) (λ long. long) ends
task_completes (hide_page name host) files outside ended written shelf sink calm ready ends =
    at_once_completes outside (IsHidden files name host) (HidesTooMuch files name) (HoldsLongFile files name) ended written shelf sink
    (λ line refused. hiding_holds files name line ready.bytes ready.file.held ready.few refused)
    (λ long. not_long files name ready.bytes ready.file.held ready.file.short long) ends
task_completes (prune_file name) files outside ended written shelf sink calm ready ends =
    at_once_completes outside (IsPruned files name) (RefusesPruning files (HostRose outside 0) name) (HoldsLongFile files name) ended written shelf sink
    (λ line refused. pruning_holds files (HostRose outside 0) name line ready.rules calm ready.held ready.few refused)
    (λ long. not_long files name ready.held.file ready.held.held ready.held.short long) ends

pub commands_complete : CommandsComplete
commands_complete words files outside task ended written is shelf sink calm ready out =
    task_completes task files outside ended written shelf sink calm ready (subst (λ (t : Option Task). EndsFor files outside t ended written) is out)
