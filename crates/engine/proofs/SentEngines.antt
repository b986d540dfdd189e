-- An engine may go to another thread: so may all that it holds.
use denote.Param.Send.{IsSend, sendable}
use Rattle.lru.proofs.cache.LruCache.TheSendSync as LruCache
use Rattle.std.proofs.Crossing
use Rattle.std.proofs.MapsCrossing
use Rattle.std.proofs.alloc.Global.TheSendSync as Global
use Rattle.std.proofs.hash.BuildHasherDefault.TheSendSync as BuildHasherDefault
use Rattle.std.proofs.hash.FoldHasher.TheSendSync as FoldHasher
use Rattle.generation.proofs.generation.Generation.TheSendSync as Generation
use Rattle.script_read.proofs.memo.Memo.TheSendSync as Memo
use Rattle.regex_host.proofs.SentHosts.{Built-send, Prefilter-send}
use Rattle.regex_host.specs.contracts.pack_host.PackHost as PackHost
use Rattle.engine.specs.contracts.engine.Engine as Engine

-- a host as a field
host : IsSend (PackHost.the_field).row
host = search (Built-send, Prefilter-send, BuildHasherDefault.the_field_send, BuildHasherDefault.the_send, FoldHasher.the_send, LruCache.the_send, Global.the_field_send, Global.the_send, MapsCrossing.crosses, Crossing.crosses, sendable) depth 60 fits 20000

pub Engine-send : IsSend Engine.the_row
Engine-send = search (host, Memo.the_field_send, Generation.the_send, Generation.the_sync, Crossing.crosses, sendable) depth 60 fits 20000
