-- A pattern that `regex` built may be sent to another thread.
use denote.Param.Send.{IsSend, sendable}
use Rattle.regex_class.proofs.Class.TheSendSync as Class
use Rattle.regex_dfa.proofs.dfa.Dfa.TheSendSync as Dfa
use Rattle.regex_extract.proofs.frames.Frame.TheSendSync as Frame
use Rattle.regex_hir.proofs.hir.Hir.TheLaws.TheKnot
use Rattle.regex_hir.proofs.look.Look.TheSendSync as Look
use Rattle.regex_literal.proofs.byte_set.ByteSet.TheSendSync as ByteSet
use Rattle.regex_literal.proofs.caseless.Caseless.TheSendSync as Caseless
use Rattle.regex_literal.proofs.ladder.Ladder.TheSendSync as Ladder
use Rattle.regex_literal.proofs.prefilter.Prefilter.TheSendSync as Prefilter
use Rattle.regex_meta.proofs.plan.Role.TheSendSync as Role
use Rattle.std.proofs.Crossing
use Rattle.std.proofs.boxed.Box.TheSendSync as Box
use Rattle.std.proofs.option.Option.TheSendSync as Option
use Rattle.std.proofs.vec.Vec.TheSendSync as Vec
use Rattle.regex_meta.specs.contracts.program.Program as Program
use Rattle.regex.specs.contracts.string.regex.Regex as Regex

pub Program-send : IsSend (Program.the_field).row
Program-send = search (Option.the_field_send, Class.the_field_send, Dfa.the_field_send, Frame.the_send, Look.the_field_send, ByteSet.the_send, Caseless.the_send, Ladder.the_field_send, Prefilter.the_send, Role.the_field_send, Box.the_send, Vec.the_send, Crossing.crosses, TheKnot.crosses, sendable) depth 60 fits 20000

pub Regex-send : IsSend (Regex.the_field).row
Regex-send = search (Program-send, Option.the_send, Vec.the_send, Crossing.crosses, TheKnot.crosses, sendable) depth 60 fits 20000
