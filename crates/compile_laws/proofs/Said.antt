-- What a list says, told by the rules that reach a request.
use Rattle.std.proofs.Common.{◌≡◌, ℕ, ◌+◌, List, [], ◌∷◌, ◌++◌, map, Bool, true, false, cond, not, ◌||◌, ◌&&◌, Option, Some, None, refl, sym, ap, ◌∙◌}
use Rattle.std.specs.List.{list_any, flat_map, cons_option, AllByRecursion}
use Rattle.std.specs.Prelude.{IfSome}
use Rattle.dnr_base.specs.declared.kind.Kind.{Kind}
use Rattle.dnr_base.specs.declared.kind.Kind.TheVariants.{MainFrame, SubFrame}
use Rattle.dnr_base.specs.declared.frame.Frame.{Frame}
use Rattle.dnr_base.specs.declared.request.Request.{Request}
use Rattle.dnr_base.specs.Kind.{has_kind, same_kind}
use Rattle.dnr_base.specs.Request.{Part, own_part, frame_part_of}
use Rattle.dnr_base.specs.View.{View, IsView}
use Rattle.dnr_spec.specs.Suffixes.{SuffixRule}
use Rattle.list_spec.specs.LineKind.{FilterLine, line_of}
use Rattle.list_spec.specs.Says.{filter_in, filters_of, matches_part, matches_frame, matches_page, fits_request, matches, says}
use Rattle.compile_spec.specs.Initiators.{initiators_of}
use Rattle.compile_spec.specs.Compiled.{Placed, and_filter, placed_from, Group, alike_to, groups_of, Standing, standing, Effect, blocks, allows, exempts, on_types, on_pages, effects_of, Draft, drafts_with, drafts_of, drafts_in}
use Rattle.compile_laws.specs.Origins.{HasViews}
use Rattle.compile_laws.proofs.Bools.{or_false, or_grouped, and_spread}
use Rattle.compile_laws.proofs.Lists.{has_in, each_in, any_in, any_out, each_of_all}
use Rattle.compile_laws.proofs.Supported.{IsSupported}
use Rattle.compile_laws.proofs.Fitting.{same_truth}
use Rattle.compile_laws.proofs.Groups.{IsGroup, are_groups, IsMember, in_a_group}
use Rattle.compile_laws.proofs.Likeness.{Agrees}
use Rattle.compile_laws.proofs.Matching.{all_alike, stands}
use Rattle.compile_laws.proofs.Reached.{reaches_by, condition_by, reaches_as, has_effect, reaches_some, part_by, frame_by, page_by, either_any, never_any}
use Rattle.compile_laws.proofs.Rules.{stands_supported}
use Rattle.compile_laws.proofs.Stood.{stands_for, standing_exception, standing_document, standing_kinds, all_agree, group_likes, members_supported, member_in}

-- ---- tests over lists

any_joined : {X : Type 0} (test : X → Bool) (xs ys : List X) → list_any test (xs ++ ys) ≡ (list_any test xs || list_any test ys)
any_joined test [] ys = refl
any_joined test (x ∷ xs) ys = ap (λ b. test x || b) (any_joined test xs ys) ∙ or_grouped (test x) (list_any test xs) (list_any test ys)

any_mapped : {X Y : Type 0} (test : Y → Bool) (f : X → Y) (xs : List X) → list_any test (map f xs) ≡ list_any (λ x. test (f x)) xs
any_mapped test f [] = refl
any_mapped test f (x ∷ xs) = ap (λ b. test (f x) || b) (any_mapped test f xs)

any_flat : {X Y : Type 0} (test : Y → Bool) (f : X → List Y) (xs : List X) → list_any test (flat_map f xs) ≡ list_any (λ x. list_any test (f x)) xs
any_flat test f [] = refl
any_flat test f (x ∷ xs) = any_joined test (f x) (flat_map f xs) ∙ ap (λ b. list_any test (f x) || b) (any_flat test f xs)

any_with : {X : Type 0} (b : Bool) (test : X → Bool) (xs : List X) → list_any (λ x. b && test x) xs ≡ (b && list_any test xs)
any_with true test [] = refl
any_with false test [] = refl
any_with b test (x ∷ xs) = ap (λ c. (b && test x) || c) (any_with b test xs) ∙ and_spread b (test x) (list_any test xs)

-- ---- a filter

abbrev pub same_effect : Effect → Effect → Bool
same_effect blocks blocks = true
same_effect allows allows = true
same_effect exempts exempts = true
same_effect _ _ = false

-- the draft has this effect and reaches the request
abbrev pub does : List SuffixRule → Request → Effect → Draft → Bool
does suffixes request effect draft = same_effect effect draft.effect && reaches_as suffixes request draft

-- the filter says so of the request
abbrev pub is_said : List SuffixRule → Request → Effect → FilterLine → Bool
is_said suffixes request blocks filter = not filter.exception && fits_request suffixes request filter
is_said suffixes request allows filter = filter.exception && fits_request suffixes request filter
is_said suffixes request exempts filter = filter.exception && filter.document && matches_page suffixes filter request

abbrev effects_with : Bool → Bool → List Kind → List Effect
effects_with exception document kinds = cond exception (on_types kinds allows ++ on_pages document) (on_types kinds blocks)

abbrev said_with : Bool → Bool → Bool → Bool → Effect → Bool
said_with exception document on_its_types on_page blocks = not exception && on_its_types
said_with exception document on_its_types on_page allows = exception && on_its_types
said_with exception document on_its_types on_page exempts = exception && document && on_page

-- an effect on types where there are types, or one on pages
abbrev effect_with : Bool → Bool → Effect → Bool
effect_with on_its_types on_page blocks = on_its_types
effect_with on_its_types on_page allows = on_its_types
effect_with on_its_types on_page exempts = on_page

told : (effect : Effect) (exception document : Bool) (kinds : List Kind) (on_its_types on_page : Bool) → (kinds ≡ [] → on_its_types ≡ false)
    → list_any (λ e. same_effect effect e && effect_with on_its_types on_page e) (effects_with exception document kinds) ≡ said_with exception document on_its_types on_page effect
told blocks true true [] t p none = refl
told blocks true false [] t p none = refl
told blocks true true (kind ∷ kinds) t p none = refl
told blocks true false (kind ∷ kinds) t p none = refl
told blocks false document [] t p none = sym (none refl)
told blocks false document (kind ∷ kinds) t p none = or_false t
told allows true true [] t p none = sym (none refl)
told allows true false [] t p none = sym (none refl)
told allows true true (kind ∷ kinds) t p none = or_false t
told allows true false (kind ∷ kinds) t p none = or_false t
told allows false document [] t p none = refl
told allows false document (kind ∷ kinds) t p none = refl
told exempts true true [] t p none = or_false p
told exempts true false [] t p none = refl
told exempts true true (kind ∷ kinds) t p none = or_false p
told exempts true false (kind ∷ kinds) t p none = refl
told exempts false document [] t p none = refl
told exempts false document (kind ∷ kinds) t p none = refl

-- what a filter of such a kind says, where this test tells on which parts it matches
abbrev said_by : Bool → Bool → List Kind → (Part → Bool) → Request → Effect → Bool
said_by exception document kinds test request effect = said_with exception document (has_kind kinds request.kind && test (own_part request)) (page_by test request) effect

same_frames : (suffixes : List SuffixRule) (filter : FilterLine) (request : Request) (place : ℕ) (frames : List Frame) → frame_by (matches suffixes filter) request place frames ≡ matches_frame suffixes filter request place frames
same_frames suffixes filter request place [] = refl
same_frames suffixes filter request place (frame ∷ frames) = λ i. by (frame_part_of request place frame) i || same_frames suffixes filter request (place + 1) frames i
  where
    by : (part : Option Part) → part_by (matches suffixes filter) part ≡ matches_part suffixes filter part
    by None = refl
    by (Some part) = refl

same_page : (suffixes : List SuffixRule) (filter : FilterLine) (request : Request) → page_by (matches suffixes filter) request ≡ matches_page suffixes filter request
same_page suffixes filter request =
    ap (λ b. ((same_kind request.kind MainFrame || same_kind request.kind SubFrame) && matches suffixes filter (own_part request)) || b) (same_frames suffixes filter request 0 request.frames)

same_said : (suffixes : List SuffixRule) (request : Request) (filter : FilterLine) (effect : Effect)
    → said_by filter.exception filter.document filter.kinds (matches suffixes filter) request effect ≡ is_said suffixes request effect filter
same_said suffixes request filter blocks = refl
same_said suffixes request filter allows = refl
same_said suffixes request filter exempts = ap (λ b. filter.exception && filter.document && b) (same_page suffixes filter request)

-- ---- several filters

any_frames : {X : Type 0} (tests : X → Part → Bool) (xs : List X) (request : Request) (place : ℕ) (frames : List Frame)
    → list_any (λ x. frame_by (tests x) request place frames) xs ≡ frame_by (λ part. list_any (λ x. tests x part) xs) request place frames
any_frames tests xs request place [] = never_any xs
any_frames tests xs request place (frame ∷ frames) =
    either_any (λ x. part_by (tests x) (frame_part_of request place frame)) (λ x. frame_by (tests x) request (place + 1) frames) xs
    ∙ (λ i. by tests xs (frame_part_of request place frame) i || any_frames tests xs request (place + 1) frames i)
  where
    by : {X : Type 0} (tests : X → Part → Bool) (xs : List X) (part : Option Part) → list_any (λ x. part_by (tests x) part) xs ≡ part_by (λ p. list_any (λ x. tests x p) xs) part
    by tests xs None = never_any xs
    by tests xs (Some part) = refl

any_page : {X : Type 0} (tests : X → Part → Bool) (xs : List X) (request : Request) → list_any (λ x. page_by (tests x) request) xs ≡ page_by (λ part. list_any (λ x. tests x part) xs) request
any_page tests xs request =
    let page = same_kind request.kind MainFrame || same_kind request.kind SubFrame in
    either_any (λ x. page && tests x (own_part request)) (λ x. frame_by (tests x) request 0 request.frames) xs
    ∙ (λ i. any_with page (λ x. tests x (own_part request)) xs i || any_frames tests xs request 0 request.frames i)

any_said : {X : Type 0} (exception document : Bool) (kinds : List Kind) (tests : X → Part → Bool) (xs : List X) (request : Request) (effect : Effect)
    → list_any (λ x. said_by exception document kinds (tests x) request effect) xs ≡ said_by exception document kinds (λ part. list_any (λ x. tests x part) xs) request effect
any_said exception document kinds tests xs request blocks =
    any_with (not exception) (λ x. has_kind kinds request.kind && tests x (own_part request)) xs
    ∙ ap (λ b. not exception && b) (any_with (has_kind kinds request.kind) (λ x. tests x (own_part request)) xs)
any_said exception document kinds tests xs request allows =
    any_with exception (λ x. has_kind kinds request.kind && tests x (own_part request)) xs
    ∙ ap (λ b. exception && b) (any_with (has_kind kinds request.kind) (λ x. tests x (own_part request)) xs)
any_said exception document kinds tests xs request exempts =
    any_with (exception && document) (λ x. page_by (tests x) request) xs ∙ ap (λ b. exception && document && b) (any_page tests xs request)

-- tests that are the same on views say the same of a request of views
module _ (test other : Part → Bool) (same : (part : Part) → IsView part.view → test part ≡ other part) (request : Request) where
  part_views : (place : ℕ) (frame : Frame) (view : Option View) → frame.view ≡ view → IfSome view IsView → part_by test (frame_part_of request place frame) ≡ part_by other (frame_part_of request place frame)
  part_views place frame None is h = rw is refl
  part_views place frame (Some view) is h = rw is (same _ h)

  frame_views : (place : ℕ) (frames : List Frame) → AllByRecursion (λ frame. IfSome frame.view IsView) frames → frame_by test request place frames ≡ frame_by other request place frames
  frame_views place [] h = refl
  frame_views place (frame ∷ frames) h = λ i. part_views place frame frame.view refl h.0 i || frame_views (place + 1) frames h.1 i

  page_views : HasViews request → page_by test request ≡ page_by other request
  page_views views =
      λ i. ((same_kind request.kind MainFrame || same_kind request.kind SubFrame) && same (own_part request) views.own i) || frame_views 0 request.frames (each_of_all (λ frame. IfSome frame.view IsView) request.frames views.frames) i

  said_views : HasViews request → (exception document : Bool) (kinds : List Kind) (effect : Effect) → said_by exception document kinds test request effect ≡ said_by exception document kinds other request effect
  said_views views exception document kinds blocks = ap (λ b. not exception && (has_kind kinds request.kind && b)) (same (own_part request) views.own)
  said_views views exception document kinds allows = ap (λ b. exception && (has_kind kinds request.kind && b)) (same (own_part request) views.own)
  said_views views exception document kinds exempts = ap (λ b. exception && document && b) (page_views views)

module _ (suffixes : List SuffixRule) (request : Request) (effect : Effect) where
  of_effect : (standing : Standing) (is : IsSupported standing.filter) (e : Effect)
      → list_any (does suffixes request effect) (drafts_with standing e)
      ≡ (same_effect effect e && effect_with (has_kind standing.filter.kinds request.kind && stands suffixes standing (own_part request)) (page_by (stands suffixes standing) request) e)
  of_effect standing is e =
      any_mapped (does suffixes request effect) (λ initiators. record { standing = standing; effect = e; initiators = initiators }) (initiators_of standing.filter.domains)
      ∙ any_with (same_effect effect e) (λ initiators. reaches_by suffixes request e (condition_by standing e initiators)) (initiators_of standing.filter.domains)
      ∙ ap (λ b. same_effect effect e && b) (reaches_some suffixes request standing is.entries e ∙ as_effect e)
    where
      as_effect : (e : Effect) → has_effect suffixes request standing is.entries e ≡ effect_with (has_kind standing.filter.kinds request.kind && stands suffixes standing (own_part request)) (page_by (stands suffixes standing) request) e
      as_effect blocks = refl
      as_effect allows = refl
      as_effect exempts = refl

  -- one of its rules has this effect and reaches the request exactly where it says so
  of_standing : (standing : Standing) → IsSupported standing.filter
      → list_any (does suffixes request effect) (drafts_of standing) ≡ said_by standing.filter.exception standing.filter.document standing.filter.kinds (stands suffixes standing) request effect
  of_standing standing is =
      let typed = has_kind standing.filter.kinds request.kind && stands suffixes standing (own_part request) in
      let page = page_by (stands suffixes standing) request in
      any_flat (does suffixes request effect) (drafts_with standing) (effects_of standing.filter)
      ∙ all_alike (λ e. list_any (does suffixes request effect) (drafts_with standing e)) (λ e. same_effect effect e && effect_with typed page e) (effects_of standing.filter) (of_effect standing is)
      ∙ told effect standing.filter.exception standing.filter.document standing.filter.kinds typed page
      (λ none. ap (λ (kinds : List Kind). has_kind kinds request.kind && stands suffixes standing (own_part request)) none)

  -- ---- a group

  -- a filter that is of one kind with the first
  one_said : (first : FilterLine) (placed : Placed) → Agrees first placed.filter
      → said_by first.exception first.document first.kinds (matches suffixes placed.filter) request effect ≡ is_said suffixes request effect placed.filter
  one_said first placed a =
      (λ i. said_with (a.exception i) (a.document i) (a.kinds request.kind i && matches suffixes placed.filter (own_part request)) (page_by (matches suffixes placed.filter) request) effect)
      ∙ same_said suffixes request placed.filter effect

  all_said : (first : FilterLine) (members : List Placed) → AllByRecursion (λ one. Agrees first one.filter) members
      → list_any (λ one. said_by first.exception first.document first.kinds (matches suffixes one.filter) request effect) members ≡ list_any (λ one. is_said suffixes request effect one.filter) members
  all_said first [] h = refl
  all_said first (one ∷ members) h = λ i. one_said first one h.0 i || all_said first members h.1 i

  of_group : HasViews request → (group : Group) → AllByRecursion (λ one. alike_to group.first one ≡ true) group.others → AllByRecursion (λ one. IsSupported one.filter) (group.first ∷ group.others)
      → list_any (does suffixes request effect) (drafts_of (standing group)) ≡ list_any (λ one. is_said suffixes request effect one.filter) (group.first ∷ group.others)
  of_group views group likes are =
      let first = group.first.filter in
      let members = group.first ∷ group.others in
      of_standing (standing group) (stands_supported group.first group.others are.0)
      ∙ (λ i. said_by (standing_exception group.first group.others i) (standing_document group.first group.others i) (standing_kinds group.first group.others i) (stands suffixes (standing group)) request effect)
      ∙ said_views (stands suffixes (standing group)) (λ part. list_any (λ one. matches suffixes one.filter part) members) (λ part view. stands_for suffixes part view group.first group.others likes are) request
      views first.exception first.document first.kinds effect
      ∙ sym (any_said first.exception first.document first.kinds (λ one. matches suffixes one.filter) members request effect)
      ∙ all_said first members (all_agree group likes)

  -- ---- a list

  of_list : HasViews request → (lines : List (List ℕ)) → list_any (does suffixes request effect) (drafts_in lines) ≡ list_any (λ one. is_said suffixes request effect one.filter) (placed_from 1 lines)
  of_list views lines =
      let all = placed_from 1 lines in
      any_flat (does suffixes request effect) (λ group. drafts_of (standing group)) (groups_of all)
      ∙ same_truth (list_any (λ group. list_any (does suffixes request effect) (drafts_of (standing group))) (groups_of all)) (list_any (λ one. is_said suffixes request effect one.filter) all)
      (λ h.
      let r = any_out (λ group. list_any (does suffixes request effect) (drafts_of (standing group))) (groups_of all) h in
      let is = each_in (IsGroup all) r.0 (groups_of all) r.1 (are_groups all) in
      let m = any_out (λ one. is_said suffixes request effect one.filter) (r.0.first ∷ r.0.others) (sym (of_group views r.0 (group_likes all r.0 is) (members_supported lines r.0 is)) ∙ r.2) in
      any_in (λ one. is_said suffixes request effect one.filter) m.0 all (member_in all r.0 m.0 is m.1) m.2)
      (λ h.
      let m = any_out (λ one. is_said suffixes request effect one.filter) all h in
      let r = has_in (IsMember m.0) (groups_of all) (in_a_group all m.0 m.1) in
      let is = each_in (IsGroup all) r.0 (groups_of all) r.1 (are_groups all) in
      any_in (λ group. list_any (does suffixes request effect) (drafts_of (standing group))) r.0 (groups_of all) r.1
      (of_group views r.0 (group_likes all r.0 is) (members_supported lines r.0 is) ∙ any_in (λ one. is_said suffixes request effect one.filter) m.0 (r.0.first ∷ r.0.others) r.2 m.2))

of_lines : (test : FilterLine → Bool) (number : ℕ) (lines : List (List ℕ)) → list_any (λ one. test one.filter) (placed_from number lines) ≡ list_any test (filters_of lines)
of_lines test number [] = refl
of_lines test number (line ∷ lines) = by (filter_in (line_of line)) (of_lines test (number + 1) lines)
  where
    by : (filter : Option FilterLine) → list_any (λ one. test one.filter) (placed_from (number + 1) lines) ≡ list_any test (filters_of lines)
        → list_any (λ one. test one.filter) (and_filter number filter (placed_from (number + 1) lines)) ≡ list_any test (cons_option filter (filters_of lines))
    by None h = h
    by (Some filter) h = ap (λ b. test filter || b) h

-- the list says that the request is blocked: a rule that blocks reaches it, and none that allows or exempts
pub says_by_rules : (suffixes : List SuffixRule) (request : Request) (lines : List (List ℕ)) → HasViews request
    → says lines suffixes request
    ≡ (list_any (does suffixes request blocks) (drafts_in lines) && not (list_any (does suffixes request allows) (drafts_in lines)) && not (list_any (does suffixes request exempts) (drafts_in lines)))
says_by_rules suffixes request lines views =
    let b = of_list suffixes request blocks views lines ∙ of_lines (is_said suffixes request blocks) 1 lines in
    let a = of_list suffixes request allows views lines ∙ of_lines (is_said suffixes request allows) 1 lines in
    let e = of_list suffixes request exempts views lines ∙ of_lines (is_said suffixes request exempts) 1 lines in
    rw (b, a, e) refl
