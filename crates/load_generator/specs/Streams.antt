-- The load generator: the requests that it makes, as the bytes of one connection.
use Rattle.std.specs.Prelude.{ℕ, ◌-◌, ◌/◌, ◌%◌, ◌==◌, if◌then◌else◌, List, [], ◌∷◌, length, codes}
use Rattle.std.specs.Prelude.{decimal}
use Rattle.std.specs.List.{concat, flat_map, range_with_len}

-- the number of the folder of request k
abbrev pub folder_of : ℕ → ℕ
folder_of k = (k / 4) % 100

-- the number of the document that request k reads: that of the last request that wrote one
abbrev pub document_of : ℕ → ℕ
document_of k = k - k % 4

-- the document that request k writes: one triple with its number
abbrev pub document_body : ℕ → List ℕ
document_body k = concat (codes "<> <http://example.org/n> " ∷ decimal k ∷ codes " ." ∷ [])

abbrev pub put_document : ℕ → List ℕ
put_document k =
    concat (codes "PUT /load/c" ∷ decimal (folder_of k) ∷ codes "/d" ∷ decimal k
    ∷ codes ".ttl HTTP/1.1\r\nHost: 127.0.0.1:8080\r\n"
    ∷ codes "Content-Type: text/turtle\r\nContent-Length: "
    ∷ decimal (length (document_body k)) ∷ codes "\r\n\r\n" ∷ document_body k ∷ [])

abbrev pub get_document : ℕ → List ℕ
get_document k =
    concat (codes "GET /load/c" ∷ decimal (folder_of k) ∷ codes "/d" ∷ decimal (document_of k)
    ∷ codes ".ttl HTTP/1.1\r\nHost: 127.0.0.1:8080\r\n\r\n" ∷ [])

abbrev pub post_member : ℕ → List ℕ
post_member k =
    concat (codes "POST /load/c" ∷ decimal (folder_of k)
    ∷ codes "/ HTTP/1.1\r\nHost: 127.0.0.1:8080\r\nSlug: s\r\n"
    ∷ codes "Content-Type: application/octet-stream\r\nContent-Length: "
    ∷ decimal (length (decimal k)) ∷ codes "\r\n\r\n" ∷ decimal k ∷ [])

abbrev pub get_folder : ℕ → List ℕ
get_folder k =
    concat (codes "GET /load/c" ∷ decimal (folder_of k)
    ∷ codes "/ HTTP/1.1\r\nHost: 127.0.0.1:8080\r\n\r\n" ∷ [])

-- Request k, from 0: four kinds of requests take turns.
unfoldable pub request_text : ℕ → List ℕ
request_text k =
    if k % 4 == 0 then put_document k
    else if k % 4 == 1 then get_document k
    else if k % 4 == 2 then post_member k
    else get_folder k

-- the stream of n requests
unfoldable pub stream : ℕ → List ℕ
stream n = flat_map request_text (range_with_len 0 n)

-- the owner of the pod of a run
abbrev pub load_owner : List ℕ
load_owner = codes "https://alice.example/#me"
