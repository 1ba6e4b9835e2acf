-- Requests that ask to go on as a WebSocket (RFC 6455, section 4.2.1).
use Rattle.std.specs.Prelude.{ℕ, Bool, true, false, not, ◌&&◌, ◌==◌, if◌then◌else◌, List, length}
use Rattle.std.specs.Prelude.{Option, Some, None, codes, bytes_eq}
use Rattle.std.specs.Option.{option_and_then, option_map_or}
use Rattle.std.specs.declared.result.Result.{Result}
use Rattle.std.specs.declared.result.Result.TheVariants.{Ok, Err}
use Rattle.base64.specs.Engines.{standard}
use Rattle.base64.specs.GeneralPurpose.{decode_of}
use Rattle.base64.specs.declared.decode.DecodeError.{DecodeError}
use Rattle.pod_base.specs.declared.field.Field.{Field}
use Rattle.pod_base.specs.declared.method.Method.{Method}
use Rattle.pod_base.specs.declared.method.Method.TheVariants.{Get, Head, Options, Post, Put, Patch}
use Rattle.pod_base.specs.declared.method.Method.TheVariants.{Delete, Other}
use Rattle.pod_base.specs.declared.request.Request.{Request}
use Rattle.field_list.specs.Values.{only_value}
use Rattle.field_list.specs.Words.{some_has_word}
use Rattle.request_fields.specs.declared.websocket_upgrade.TheConstants.{KEY_LEN}

abbrev pub is_get : Method → Bool
is_get Get = true
is_get Head = false
is_get Options = false
is_get Post = false
is_get Put = false
is_get Patch = false
is_get Delete = false
is_get Other = false

-- a GET of HTTP/1.1
abbrev pub is_upgradable : Request → Bool
is_upgradable request = is_get request.method && request.minor == 1

-- Upgrade has the word `websocket`, and Connection the word `upgrade` and not `close`.
abbrev pub asks_for_websocket : List Field → Bool
asks_for_websocket fields =
    some_has_word (codes "upgrade") (codes "websocket") fields
    && (some_has_word (codes "connection") (codes "upgrade") fields
    && not (some_has_word (codes "connection") (codes "close") fields))

-- Sec-WebSocket-Version stands once and is 13.
abbrev pub has_version_13 : List Field → Bool
has_version_13 fields =
    option_map_or (λ value. bytes_eq value (codes "13"))
    (only_value (codes "sec-websocket-version") fields) false

abbrev pub are_16 : Result (List ℕ) DecodeError → Bool
are_16 (Ok bytes) = length bytes == 16
are_16 (Err e) = false

-- the text is the base64 of 16 bytes
abbrev pub has_16_bytes : List ℕ → Bool
has_16_bytes key = are_16 (decode_of standard key)

-- a key: 24 characters that are the base64 of 16 bytes
abbrev pub is_key : List ℕ → Bool
is_key key = length key == KEY_LEN && has_16_bytes key

-- the only Sec-WebSocket-Key, where it is a key
abbrev pub key_of : List Field → Option (List ℕ)
key_of fields = option_and_then (λ key. if is_key key then Some key else None)
    (only_value (codes "sec-websocket-key") fields)

-- the key of a request that is an upgrade
abbrev pub upgrade_key : Request → Option (List ℕ)
upgrade_key request =
    if is_upgradable request && (asks_for_websocket request.fields && has_version_13 request.fields)
    then key_of request.fields else None
