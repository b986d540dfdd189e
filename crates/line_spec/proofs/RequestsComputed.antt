-- The examples of script lines are computed.
use Rattle.std.specs.Prelude.{refl}
use Rattle.std.specs.Str.{is_utf8}
use Rattle.url.proofs.OnLiterals.{url_on_literals}
use Rattle.serde_json.proofs.OnLiterals.{serde_json_on_literals}
use Rattle.dnr_spec.specs.Headers.{is_name}
use Rattle.line_spec.specs.RequestLine.{url_in, initiator_in, kind_in, method_in, tab_in, frame_in, frames_in, as_header, headers_in, request_in}
use Rattle.line_spec.specs.Line.{command_in, command_of}
use Rattle.line_spec.specs.RequestExamples.{BlankLinesAreCommands, CommandsHaveNames, FirstFieldAtFaultIsNamed, LastOfAKeyCounts, UrlsAreRefusedByName, InitiatorsAreHosts, TabsHaveARange, FramesNameTheirUrl, FirstFrameAtFaultCounts, HeadersArePairs}

pub blank_lines_are_commands : BlankLinesAreCommands
unfolding url_on_literals serde_json_on_literals is_utf8 is_name url_in initiator_in kind_in method_in tab_in frame_in frames_in as_header headers_in request_in command_in command_of
blank_lines_are_commands = (refl, refl, refl, refl)

pub commands_have_names : CommandsHaveNames
unfolding url_on_literals serde_json_on_literals is_utf8 is_name url_in initiator_in kind_in method_in tab_in frame_in frames_in as_header headers_in request_in command_in command_of
commands_have_names = (refl, refl, refl, refl, refl, refl)

pub first_field_at_fault_is_named : FirstFieldAtFaultIsNamed
unfolding url_on_literals serde_json_on_literals is_utf8 is_name url_in initiator_in kind_in method_in tab_in frame_in frames_in as_header headers_in request_in command_in command_of
first_field_at_fault_is_named = (refl, refl, refl, refl)

pub last_of_a_key_counts : LastOfAKeyCounts
unfolding url_on_literals serde_json_on_literals is_utf8 is_name url_in initiator_in kind_in method_in tab_in frame_in frames_in as_header headers_in request_in command_in command_of
last_of_a_key_counts = refl

pub urls_are_refused_by_name : UrlsAreRefusedByName
unfolding url_on_literals serde_json_on_literals is_utf8 is_name url_in initiator_in kind_in method_in tab_in frame_in frames_in as_header headers_in request_in command_in command_of
urls_are_refused_by_name = (refl, refl)

pub initiators_are_hosts : InitiatorsAreHosts
unfolding url_on_literals serde_json_on_literals is_utf8 is_name url_in initiator_in kind_in method_in tab_in frame_in frames_in as_header headers_in request_in command_in command_of
initiators_are_hosts = (refl, refl, refl, refl, refl)

pub tabs_have_a_range : TabsHaveARange
unfolding url_on_literals serde_json_on_literals is_utf8 is_name url_in initiator_in kind_in method_in tab_in frame_in frames_in as_header headers_in request_in command_in command_of
tabs_have_a_range = (refl, refl, refl, refl, refl)

pub frames_name_their_url : FramesNameTheirUrl
unfolding url_on_literals serde_json_on_literals is_utf8 is_name url_in initiator_in kind_in method_in tab_in frame_in frames_in as_header headers_in request_in command_in command_of
frames_name_their_url = (refl, refl, refl, refl)

pub first_frame_at_fault_counts : FirstFrameAtFaultCounts
unfolding url_on_literals serde_json_on_literals is_utf8 is_name url_in initiator_in kind_in method_in tab_in frame_in frames_in as_header headers_in request_in command_in command_of
first_frame_at_fault_counts = (refl, refl, refl)

pub headers_are_pairs : HeadersArePairs
unfolding url_on_literals serde_json_on_literals is_utf8 is_name url_in initiator_in kind_in method_in tab_in frame_in frames_in as_header headers_in request_in command_in command_of
headers_are_pairs = (refl, refl, refl, refl, refl)
