-- What a DL status says of a slave's ports (ESC data sheet, 0x0110).
use Rattle.std.specs.Prelude.{ℕ, ◌+◌, ◌*◌, ◌/◌, ◌%◌, ◌^◌, Bool, not, ◌&&◌, ◌||◌, nat_eq}

abbrev pub bit : ℕ → ℕ → Bool
bit status place = nat_eq (status / 2 ^ place % 2) 1

-- there is a link at the port and communication over it, and its loop is open
abbrev pub is_connected : ℕ → ℕ → Bool
is_connected status port = bit status (4 + port) && not (bit status (8 + 2 * port)) && bit status (9 + 2 * port)

-- its loop is closed, and there is no communication
abbrev pub is_closed : ℕ → ℕ → Bool
is_closed status port = bit status (8 + 2 * port) && not (bit status (9 + 2 * port))

-- port 0 is connected, and every other port is connected or closed; this project takes no other status
unfoldable pub is_formed : ℕ → Bool
is_formed status =
    is_connected status 0
    && (is_connected status 1 || is_closed status 1)
    && (is_connected status 2 || is_closed status 2)
    && (is_connected status 3 || is_closed status 3)
