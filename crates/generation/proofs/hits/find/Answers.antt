use Rattle.std.proofs.Common.{ℕ, List, ◌++◌, Some, ◌∙◌, ap}
use Rattle.dnr_base.specs.Request.{Part, own_part}
use Rattle.rule_index.specs.Index.{near}
use Rattle.rule_index.specs.Needs.{shown_by}
use Rattle.generation.specs.Block.{listed_in}
use Rattle.generation.specs.Hits.{frame_hits, hits_by}
use Rattle.generation.proofs.Gathered.{hits_found}
use Rattle.generation.proofs.hits.find.Goals as goal

pub returns : goal.returns
returns c =
    let index = c.index-index.result.now in
    let request = c.args.request.now in
    let own = own_part request in
    hits_found (listed_in c.args.block.now) index request c.push_frames.new.hits.items c.sort_once.new.hits.items c.index-index.ensures c.push_own.ensures.view c.in_ok-push_frames.ensures.views
    (c.in_ok-push_frames.ensures.hits
    ∙ ap (λ (l : List (ℕ × ℕ)). l ++ frame_hits index.framing request 0 request.frames)
    (c.in_ok-push_own.ensures.hits
    ∙ ap (λ (l : List (ℕ × ℕ)). l ++ hits_by (near index.whole (Some (shown_by c.args.own.now)) own) 0) c.clear.ensures.items
    ∙ ap (λ (part : Part). hits_by (near index.whole (Some (shown_by part)) own) 0) c.requires.own))
    c.sort_once.ensures.sorted c.sort_once.ensures.all c.sort_once.ensures.few
