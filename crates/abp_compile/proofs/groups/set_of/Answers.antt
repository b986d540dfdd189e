use Rattle.abp_compile.proofs.Turned.{put_in}
use Rattle.abp_compile.proofs.groups.set_of.Goals as goal

pub loop-domain-preserved : goal.loop-domain-preserved
loop-domain-preserved c =
    put_in c.loop-domain.set.keys c.insert.new.self.keys c.loop-domain.domains.items c.pop.new.self.items c.in-Some.domain _ c.in-Some.ensures.items c.in_ok-insert.ensures.keys c.loop-domain.invariant
