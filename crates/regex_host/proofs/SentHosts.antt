-- So may a host, which keeps some of them.
use denote.Param.Send.{IsSend, sendable}
use Rattle.lru.proofs.cache.LruCache.TheSendSync as LruCache
use Rattle.regex_hir.proofs.hir.Hir.TheLaws.TheKnot
use Rattle.std.proofs.Crossing
use Rattle.std.proofs.MapsCrossing
use Rattle.std.proofs.alloc.Global.TheSendSync as Global
use Rattle.std.proofs.hash.BuildHasherDefault.TheSendSync as BuildHasherDefault
use Rattle.std.proofs.hash.FoldHasher.TheSendSync as FoldHasher
use Rattle.std.proofs.borrow.CowSlice.TheSendSync as CowSlice
use Rattle.std.proofs.option.Option.TheSendSync as Option
use Rattle.std.proofs.vec.Vec.TheSendSync as Vec
use Rattle.memchr.proofs.memmem.Finder.TheSendSync as Finder
use Rattle.memchr.proofs.memmem.searcher.Searcher.TheSendSync as Searcher
use Rattle.regex_host.specs.contracts.prefilter.Prefilter as Prefilter
use Rattle.regex_host.specs.contracts.built.Built as Built
use Rattle.regex_host.specs.contracts.pack_host.PackHost as PackHost
use Rattle.regex_host.proofs.SentPatterns.{Regex-send}

pub Built-send : IsSend (Built.the_field).row
Built-send = search (Regex-send, MapsCrossing.crosses, Crossing.crosses, TheKnot.crosses, sendable) depth 60 fits 20000

-- what finds a literal of a pattern
pub Prefilter-send : IsSend (Prefilter.the_field).row
Prefilter-send = search (Finder.the_send, Searcher.the_field_send, Searcher.the_send, CowSlice.the_field_send, CowSlice.the_send, Option.the_field_send, Option.the_send, Vec.the_send, Global.the_field_send, Global.the_send, Crossing.crosses, sendable) depth 60 fits 20000

pub PackHost-send : IsSend PackHost.the_row
PackHost-send = search (Built-send, Prefilter-send, BuildHasherDefault.the_field_send, BuildHasherDefault.the_send, FoldHasher.the_send, LruCache.the_send, Global.the_field_send, Global.the_send, MapsCrossing.crosses, Crossing.crosses, TheKnot.crosses, sendable) depth 60 fits 20000
