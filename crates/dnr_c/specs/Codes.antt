-- The codes that calls answer, as the header names them.
use Rattle.std.specs.Prelude.{ℕ}

abbrev pub done : ℕ
done = 0

-- memory ran out
abbrev pub no_memory : ℕ
no_memory = 1

-- the seat is closed
abbrev pub is_closed : ℕ
is_closed = 2

-- the seat that is to be opened is open already
abbrev pub is_opened : ℕ
is_opened = 3

-- the answer takes more bytes than there is room for
abbrev pub no_room : ℕ
no_room = 4

-- the words ask for no session
abbrev pub usage : ℕ
usage = 5

-- a file or an installation is refused
abbrev pub refused : ℕ
refused = 6

-- a file is named that is not there
abbrev pub no_file : ℕ
no_file = 7

-- a file has more bytes than it may have
abbrev pub too_long : ℕ
too_long = 8

-- a word or a name is no text
abbrev pub no_text : ℕ
no_text = 9

-- the pattern host failed
abbrev pub host_fault : ℕ
host_fault = 10

-- a part of a request is at fault: none of those that follow
abbrev pub bad_request : ℕ
bad_request = 11

abbrev pub bad_url : ℕ
bad_url = 12

abbrev pub bad_type : ℕ
bad_type = 13

abbrev pub bad_initiator : ℕ
bad_initiator = 14

abbrev pub bad_method : ℕ
bad_method = 15

abbrev pub bad_tab : ℕ
bad_tab = 16

abbrev pub bad_frames : ℕ
bad_frames = 17

abbrev pub bad_request_headers : ℕ
bad_request_headers = 18

abbrev pub bad_response_headers : ℕ
bad_response_headers = 19
