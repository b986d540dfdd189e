-- What was read, from the bytes of a file to what the file holds.
use Rattle.std.proofs.Common.{◌≡◌, ℕ, zero, suc, ◌+◌, ◌<◌, ◌≤◌, List, [], ◌∷◌, ◌++◌, length, drop, get_or, map, append_assoc, codes, true, false, Option, Some, None, Result, Ok, Err, refl, sym, ap, ◌∙◌, subst, inl, inr}
use Rattle.std.specs.Prelude.{IfSome, IfErr}
use Rattle.std.specs.List.{AllZip}
use Rattle.std.proofs.lemmas.List.{drop_more, drop_all, append-nil}
use Rattle.dnr_spec.specs.Suffixes.{SuffixRule, read_suffixes}
use Rattle.dnr_words.specs.declared.options.Installed.{Installed}
use Rattle.dnr_words.specs.declared.options.Installed.TheVariants.{Folder}
use Rattle.dnr_words.specs.Seen.{installed_seen}
use Rattle.abp_compile.specs.declared.report.CompileRefusal.{CompileRefusal}
use Rattle.abp_compile.specs.declared.report.CompileRefusal.TheVariants.{TooManyRules, HostFault}
use Rattle.abp_compile.specs.Answers.{CountsTooMany, StopsAt}
use Rattle.compile_spec.specs.Compiled.{max_compiled, compiled, rules_in}
use Rattle.list_spec.specs.LineKind.{lines_of}
use Rattle.rules_file.specs.declared.FileRefusal.{FileRefusal}
use Rattle.rules_file.specs.declared.load.LoadRefusal.{LoadRefusal}
use Rattle.rules_file.specs.declared.load.LoadRefusal.TheVariants.{BadFile}
use Rattle.rules_file.specs.Load as load
use Rattle.rules_file.specs.Answers.{refusal_seen}
use Rattle.load_spec.specs.Extensions.{EndsAtOne, extension_of}
use Rattle.load_spec.specs.Files.{Files, HoldsFile, HoldsLongFile, HoldsRules, HoldsSuffixes}
use Rattle.manifest_read.specs.declared.refusal.ManifestRefusal.{ManifestRefusal}
use Rattle.manifest_read.specs.declared.refusal.ManifestRefusal.TheVariants as refusal
use Rattle.manifest_read.specs.Refusals as manifest
use Rattle.manifest_read.proofs.Sets.{IsReadTo}
use Rattle.rule_spec.specs.declared.rule_kind.RuleKind.{RuleKind}
use Rattle.rule_spec.specs.declared.rule_kind.RuleKind.TheVariants.{Static}
use Rattle.rule_spec.specs.Rule.{Rule}
use Rattle.update_spec.specs.Update.{NewExtension}
use Rattle.session_load.specs.declared.lists.CompiledList.{CompiledList}
use Rattle.session_load.specs.declared.stop.Stop.{Stop}
use Rattle.session_load.specs.declared.stop.Stop.TheVariants as stop
use Rattle.session_load.specs.Extensions.{StopsFor, extension_in}
use Rattle.session_load.specs.Lists.{HoldsCompiled, IsCompiledList}
use Rattle.session_load.specs.Loads.{PrintsBadSuffixes, PrintsBadList, StopsInRules, StopsInSuffixes, StopsInList, StopsInOne, StopsInExtensions, StopsInServing}
use Rattle.session_load.specs.Stops.{Prints, StopsAs}
use Rattle.session_load.proofs.Stopped.{printed, stops_map, known_map, one_wider}
use Rattle.session_spec.specs.Refusals.{refusal_line, too_many_rules, host_failed, list_line}
use Rattle.session_spec.specs.Loading.{PrintsRefusedRules, PrintsRefusedSuffixes, PrintsRefusedList, HoldsListExtension, Loaded, Loads, Reads, ReadsSuffixes, Refuses, IsTooLong, RefusesFile, RefusesSuffixes, IsLongSuffixFile, HasLongFileIn}
use Rattle.session_spec.specs.Out.{LoadsFor, of_rules, loaded_with}
use Rattle.session_spec.specs.Words as words
use Rattle.session_spec.specs.Words.{folder, list, Serving}

-- ---- a file that is not read

-- it is too long, or something comes that is told by counts
pub only_long : (known : Option Files) (name : List ℕ) (Refused : Files → List ℕ → Type 0) (s : Stop)
    → IfSome known (λ files. StopsAs (λ line. ⊥) (HoldsLongFile files name) s) → IfSome known (λ files. StopsAs (Refused files) (HoldsLongFile files name) s)
only_long known name Refused s why =
    known_map known (λ files line. ⊥) Refused (λ files. HoldsLongFile files name) (λ files. HoldsLongFile files name) s
    (λ files line none. absurd none) (λ files long. long) why

-- ---- rules files

pub loads_local : (known : Option Files) (name : List ℕ) (rules : List Rule) (loaded : Loaded) → IfSome known (λ files. HoldsRules files Static name rules) → loaded ≡ loaded_with rules
    → IfSome known (λ files. LoadsFor files (of_rules false name) loaded)
loads_local None name rules loaded held same = tt
loads_local (Some files) name rules loaded held same = (rules, held, same)

pub bad_rules : (known : Option Files) (rose : Type 0) (kind : RuleKind) (name : List ℕ) (r : LoadRefusal) (refused : FileRefusal) (s : Stop) → r ≡ BadFile refused
    → IfSome known (λ files. load.Refuses files kind name rose r) → Prints (refusal_line name (refusal_seen refused)) s → StopsInRules known rose kind name s
bad_rules None rose kind name r refused s is why prints = tt
bad_rules (Some files) rose kind name r refused s is why prints =
    printed (PrintsRefusedRules files rose kind name) (HoldsLongFile files name) (refusal_line name (refusal_seen refused)) s prints (record {
      refusal = refusal_seen refused;
      broken = subst (load.Refuses files kind name rose) is why;
      same = refl;
    })

-- ---- suffix lists

pub holds_suffixes : (known : Option Files) (name bytes : List ℕ) (rules : List SuffixRule) → IfSome known (λ files. HoldsFile files name bytes) → read_suffixes bytes ≡ Ok rules
    → IfSome known (λ files. HoldsSuffixes files name rules)
holds_suffixes None name bytes rules file read = tt
holds_suffixes (Some files) name bytes rules file read = record { file = bytes; held = file.held; short = file.short; read = read }

pub bad_suffixes : (known : Option Files) (name bytes : List ℕ) (s : Stop) → IfSome known (λ files. HoldsFile files name bytes) → StopsAs (PrintsBadSuffixes name bytes) ⊥ s
    → IfSome known (λ files. StopsAs (PrintsRefusedSuffixes files name) (HoldsLongFile files name) s)
bad_suffixes None name bytes s file why = tt
bad_suffixes (Some files) name bytes s file why =
    stops_map (PrintsBadSuffixes name bytes) (PrintsRefusedSuffixes files name) ⊥ (HoldsLongFile files name) s
    (λ line bad. record { refusal = bad.refusal; broken = record { file = bytes; held = file.held; short = file.short; read = bad.read }; same = bad.same })
    (λ none. absurd none) why

-- ---- filter lists

pub holds_list : (known : Option Files) (name bytes : List ℕ) (l : CompiledList) → IfSome known (λ files. HoldsFile files name bytes) → IsCompiledList bytes l
    → IfSome known (λ files. HoldsCompiled files name l)
holds_list None name bytes l file compiled = tt
holds_list (Some files) name bytes l file compiled = record { bytes = bytes; file = file; compiled = compiled }

pub bad_list : (known : Option Files) (rose : Type 0) (name bytes : List ℕ) (s : Stop) → IfSome known (λ files. HoldsFile files name bytes) → StopsAs (PrintsBadList rose name bytes) ⊥ s
    → StopsInList known rose name s
bad_list None rose name bytes s file why = tt
bad_list (Some files) rose name bytes s file why =
    stops_map (PrintsBadList rose name bytes) (PrintsRefusedList files rose name) ⊥ (HoldsLongFile files name) s
    (λ line bad. record { refusal = bad.refusal; cause = record { bytes = bytes; file = file; refused = bad.refused }; same = bad.same })
    (λ none. absurd none) why

pub if_bad_list : {T : Type 0} (result : Result T Stop) (known : Option Files) (rose : Type 0) (name bytes : List ℕ) → IfSome known (λ files. HoldsFile files name bytes)
    → IfErr result (StopsAs (PrintsBadList rose name bytes) ⊥) → IfErr result (StopsInList known rose name)
if_bad_list (Ok x) known rose name bytes file why = tt
if_bad_list (Err s) known rose name bytes file why = bad_list known rose name bytes s file why

pub too_many : (rose : Type 0) (name bytes : List ℕ) (r : CompileRefusal) (count : ℕ) (s : Stop) → r ≡ TooManyRules count → CountsTooMany (compiled (lines_of bytes)) r
    → Prints (list_line name (too_many_rules count)) s → StopsAs (PrintsBadList rose name bytes) ⊥ s
too_many rose name bytes r count s is why prints =
    let counts = subst (CountsTooMany (compiled (lines_of bytes))) is why in
    printed (PrintsBadList rose name bytes) ⊥ (list_line name (too_many_rules count)) s prints
    (record { refusal = too_many_rules count; refused = (counts.1, subst (λ n. max_compiled < n) (sym counts.1) counts.0); same = refl })

pub host_fault : (rose : Type 0) (name bytes : List ℕ) (r : CompileRefusal) (line : ℕ) (s : Stop) → r ≡ HostFault line → rose → StopsAt (lines_of bytes) r
    → Prints (list_line name (host_failed line)) s → StopsAs (PrintsBadList rose name bytes) ⊥ s
host_fault rose name bytes r line s is rises why prints =
    printed (PrintsBadList rose name bytes) ⊥ (list_line name (host_failed line)) s prints
    (record { refusal = host_failed line; refused = (rises, subst (StopsAt (lines_of bytes)) is why); same = refl })

-- the extension of this name with the one ruleset `list`, of these rules and lines
abbrev with_list : List ℕ → List Rule → List (List ℕ) → NewExtension
with_list name rules origins =
    extension_of name (record { id = codes "list"; enabled = true; rules = rules; origins = origins } ∷ []) None

pub reads_list : (known : Option Files) (name file : List ℕ) (l : CompiledList) (extension : NewExtension) → IfSome known (λ files. HoldsCompiled files file l) → extension ≡ extension_in name l
    → IfSome known (λ files. HoldsListExtension files name file extension)
reads_list None name file l extension held same = tt
reads_list (Some files) name file l extension held same = record {
  bytes = held.bytes;
  rules = held.compiled.all;
  held = record { file = held.file; few = held.compiled.few; same = held.compiled.same };
  same = same ∙ ap (λ rules. with_list name rules l.report.origins.items) held.compiled.are_rules
      ∙ ap (λ origins. with_list name (rules_in held.compiled.all) origins) held.compiled.are_origins;
}

-- ---- extensions of folders

stop_is : (R : List ℕ → Type 0) (T : Type 0) (s other : Stop) → s ≡ other → StopsAs R T other → StopsAs R T s
stop_is R T s other same why = subst (StopsAs R T) (sym same) why

folder_stop : (files : Files) (rose : Type 0) (name : List ℕ) (r : ManifestRefusal) (s : Stop) → manifest.Refuses files rose name r → StopsFor name r s
    → StopsAs (λ line. Refuses files rose line (folder name)) (IsTooLong files (folder name)) s
folder_stop files rose name refusal.ReadFault s why is = stop_is (λ line. Refuses files rose line (folder name)) (IsTooLong files (folder name)) s stop.ReadFault is tt
folder_stop files rose name (refusal.FileTooLong file) s why is = stop_is (λ line. Refuses files rose line (folder name)) (IsTooLong files (folder name)) s stop.FileTooLong is why.0
folder_stop files rose name (refusal.BadJson file) s why is =
    printed (λ line. Refuses files rose line (folder name)) (IsTooLong files (folder name)) _ s is (record { refused = _; cause = why; same = refl })
folder_stop files rose name (refusal.BadManifest field) s why is =
    printed (λ line. Refuses files rose line (folder name)) (IsTooLong files (folder name)) _ s is (record { refused = _; cause = why; same = refl })
folder_stop files rose name (refusal.RuleRefused file r) s why is =
    printed (λ line. Refuses files rose line (folder name)) (IsTooLong files (folder name)) _ s is (record { refused = _; cause = why; same = refl })
folder_stop files rose name refusal.NoMemory s why is = stop_is (λ line. Refuses files rose line (folder name)) (IsTooLong files (folder name)) s stop.NoMemory is tt

pub folder_stops : (known : Option Files) (rose : Type 0) (name : List ℕ) (r : ManifestRefusal) (s : Stop) → IfSome known (λ files. manifest.Refuses files rose name r) → StopsFor name r s
    → StopsInOne known rose (folder name) s
folder_stops None rose name r s why is = tt
folder_stops (Some files) rose name r s why is = folder_stop files rose name r s why is

-- ---- one after another

zip_more : {X Y : Type 0} (R : X → Y → Type 0) (front : List X) (ys : List Y) (x : X) (y : Y) → AllZip R front ys → R x y → AllZip R (front ++ x ∷ []) (ys ++ y ∷ [])
zip_more R [] [] x y all one = (one, tt)
zip_more R [] (other ∷ ys) x y all one = absurd all
zip_more R (first ∷ front) [] x y all one = absurd all
zip_more R (first ∷ front) (other ∷ ys) x y all one = (all.0, zip_more R front ys x y all.1 one)

-- what stands for one that is not there
abbrev pub no_one : Installed
no_one = Folder (record { ref_ptr = (0, 0); now = [] })

-- an element that is there is the same whatever stands for one that is not
pub get_or_again : {X : Type 0} (xs : List X) (n : ℕ) (d : X) → get_or xs n d ≡ get_or xs n (get_or xs n d)
get_or_again [] n d = refl
get_or_again (x ∷ xs) zero d = refl
get_or_again (x ∷ xs) (suc n) d = get_or_again xs n d

-- what ends one behind those that were read, ends all
ends_behind : {X Y : Type 0} (R : X → Y → Type 0) (E : X → Type 0) (front : List X) (ys : List Y) (rest : List X) → AllZip R front ys → EndsAtOne R E rest → EndsAtOne R E (front ++ rest)
ends_behind R E [] ys rest all ends = ends
ends_behind R E (first ∷ front) [] rest all ends = absurd all
ends_behind R E (first ∷ front) (y ∷ ys) rest all ends = inr (y, all.0, ends_behind R E front ys rest all.1 ends)

pub record AreLoadedSoFar (known : Option Files) (installed : List Installed) (all : List NewExtension) (next : ℕ) : Type 0 where
  pub same : IfSome known (λ files. IsReadTo (Reads files) (map installed_seen installed) all (map installed_seen (drop next installed)))

pub extensions_begin : (known : Option Files) (installed : List Installed) → AreLoadedSoFar known installed [] 0
extensions_begin None installed = record { same = tt }
extensions_begin (Some files) installed = record { same = record { front = []; read = tt; all = refl } }

rest_is : (installed : List Installed) (next : ℕ) (one : Installed) → next < length installed → one ≡ get_or installed next one
    → map installed_seen (drop next installed) ≡ installed_seen one ∷ map installed_seen (drop (next + 1) installed)
rest_is installed next one inside is =
    ap (map installed_seen) (drop_more installed next one inside) ∙ ap (λ i. installed_seen i ∷ map installed_seen (drop (next + 1) installed)) (sym is)

pub extensions_go : (known : Option Files) (installed : List Installed) (all : List NewExtension) (next : ℕ) (one : Installed) (extension : NewExtension)
    → next < length installed → one ≡ get_or installed next one → AreLoadedSoFar known installed all next → IfSome known (λ files. Reads files (installed_seen one) extension)
    → AreLoadedSoFar known installed (all ++ extension ∷ []) (next + 1)
extensions_go None installed all next one extension inside is so_far read = record { same = tt }
extensions_go (Some files) installed all next one extension inside is so_far read = record {
  same = record {
    front = so_far.same.front ++ installed_seen one ∷ [];
    read = zip_more (Reads files) so_far.same.front all (installed_seen one) extension so_far.same.read read;
    all = so_far.same.all ∙ ap (λ rest. so_far.same.front ++ rest) (rest_is installed next one inside is)
        ∙ sym (append_assoc so_far.same.front (installed_seen one ∷ []) (map installed_seen (drop (next + 1) installed)));
  };
}

pub extensions_end : (known : Option Files) (installed : List Installed) (all : List NewExtension) (next : ℕ) → length installed ≤ next → AreLoadedSoFar known installed all next
    → IfSome known (λ files. AllZip (Reads files) (map installed_seen installed) all)
extensions_end None installed all next end so_far = tt
extensions_end (Some files) installed all next end so_far =
    let whole = so_far.same.all ∙ ap (λ rest. so_far.same.front ++ map installed_seen rest) (drop_all next installed end) ∙ append-nil so_far.same.front in
    subst (λ front. AllZip (Reads files) front all) (sym whole) so_far.same.read

-- what ends one of them, behind those that were read, ends all
ends_all : (files : Files) (E : words.Installed → Type 0) (installed : List Installed) (all : List NewExtension) (next : ℕ) (one : Installed)
    → next < length installed → one ≡ get_or installed next one → IsReadTo (Reads files) (map installed_seen installed) all (map installed_seen (drop next installed)) → E (installed_seen one)
    → EndsAtOne (Reads files) E (map installed_seen installed)
ends_all files E installed all next one inside is so_far ends =
    subst (EndsAtOne (Reads files) E) (sym (so_far.all ∙ ap (λ rest. so_far.front ++ rest) (rest_is installed next one inside is)))
    (ends_behind (Reads files) E so_far.front all (installed_seen one ∷ map installed_seen (drop (next + 1) installed)) so_far.read (inl ends))

pub extensions_stop : (known : Option Files) (A B : Type 0) (installed : List Installed) (all : List NewExtension) (next : ℕ) (one : Installed) (s : Stop) → (A → B)
    → next < length installed → one ≡ get_or installed next one → AreLoadedSoFar known installed all next → StopsInOne known A (installed_seen one) s
    → StopsInExtensions known B (map installed_seen installed) s
extensions_stop None A B installed all next one s wider inside is so_far why = tt
extensions_stop (Some files) A B installed all next one s wider inside is so_far why =
    stops_map (λ line. Refuses files A line (installed_seen one)) (λ line. EndsAtOne (Reads files) (Refuses files B line) (map installed_seen installed))
    (IsTooLong files (installed_seen one)) (EndsAtOne (Reads files) (IsTooLong files) (map installed_seen installed)) s
    (λ line refused. ends_all files (Refuses files B line) installed all next one inside is so_far.same (one_wider files A B line (installed_seen one) wider refused))
    (λ long. ends_all files (IsTooLong files) installed all next one inside is so_far.same long) why

-- ---- all that the words name

pub serving_stopped_by_suffixes : (known : Option Files) (rose : Type 0) (serving : Serving) (s : Stop) → StopsInSuffixes known serving.suffixes s → StopsInServing known rose serving s
serving_stopped_by_suffixes known rose serving s why =
    known_map known (λ files line. RefusesSuffixes files line serving.suffixes) (λ files. RefusesFile files rose serving)
    (λ files. IsLongSuffixFile files serving.suffixes) (λ files. HasLongFileIn files serving) s
    (λ files line refused. inl refused) (λ files long. inl long) why

extensions_stopped : (files : Files) (rose : Type 0) (serving : Serving) (rules : List SuffixRule) (s : Stop) → ReadsSuffixes files serving.suffixes rules
    → StopsAs (λ line. EndsAtOne (Reads files) (Refuses files rose line) serving.installed) (EndsAtOne (Reads files) (IsTooLong files) serving.installed) s
    → StopsAs (RefusesFile files rose serving) (HasLongFileIn files serving) s
extensions_stopped files rose serving rules s read why =
    stops_map (λ line. EndsAtOne (Reads files) (Refuses files rose line) serving.installed) (RefusesFile files rose serving)
    (EndsAtOne (Reads files) (IsTooLong files) serving.installed) (HasLongFileIn files serving) s
    (λ line ends. inr (record { suffixes = rules; read = read; first = ends })) (λ ends. inr (record { suffixes = rules; read = read; first = ends })) why

-- the shelf told `after` what it tells, `known`
pub serving_stopped_by_extensions : (known after : Option Files) (rose : Type 0) (serving : Serving) (rules : List SuffixRule) (installed : List words.Installed) (s : Stop)
    → after ≡ known → installed ≡ serving.installed → IfSome known (λ files. ReadsSuffixes files serving.suffixes rules) → StopsInExtensions after rose installed s
    → StopsInServing known rose serving s
serving_stopped_by_extensions None after rose serving rules installed s same these read why = tt
serving_stopped_by_extensions (Some files) after rose serving rules installed s same these read why =
    extensions_stopped files rose serving rules s read
    (subst (λ (list : List words.Installed). StopsInExtensions (Some files) rose list s) these
    (subst (λ (k : Option Files). StopsInExtensions k rose installed s) same why))

pub loads_serving : (known after : Option Files) (serving : Serving) (rules : List SuffixRule) (installed : List words.Installed) (all : List NewExtension) (loaded : Loaded)
    → after ≡ known → installed ≡ serving.installed → loaded ≡ record { suffixes = rules; extensions = all } → IfSome known (λ files. ReadsSuffixes files serving.suffixes rules)
    → IfSome after (λ files. AllZip (Reads files) installed all) → IfSome known (λ files. Loads files serving loaded)
loads_serving None after serving rules installed all loaded same these is read extensions = tt
loads_serving (Some files) after serving rules installed all loaded same these is read extensions =
    subst (Loads files serving) (sym is) (record {
      suffixes = read;
      extensions = subst (λ (list : List words.Installed). AllZip (Reads files) list all) these
          (subst (λ (k : Option Files). IfSome k (λ f. AllZip (Reads f) installed all)) same extensions);
    })
