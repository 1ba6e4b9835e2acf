-- A parser that was fed more.
use Rattle.std.proofs.Common.{◌≡◌, ℕ, List, ◌++◌, sym, subst}
use Rattle.pod_base.specs.declared.heard.Heard.{Heard}
use Rattle.http_conn.specs.Messages.{Messages}
use Rattle.http_conn.specs.ParserStates.{Represents}
use Rattle.http_conn.specs.declared.parser_state.ParserState.{ParserState}

pub represents_as : (p q : ParserState) (text text' : List ℕ) (events events' : List Heard) → q ≡ p → text' ≡ text → events' ≡ events → Represents p text events → Represents q text' events'
represents_as p q text text' events events' s t e h =
    subst (λ (x : ParserState × List ℕ × List Heard). Represents x.0 x.1 x.2) (λ i. (sym s i, sym t i, sym e i)) h

pub messages_as : (text text' : List ℕ) (events events' : List Heard) (rest : ℕ) → text' ≡ text → events' ≡ events → Messages text events rest → Messages text' events' rest
messages_as text text' events events' rest t e h = subst (λ (x : List ℕ × List Heard). Messages x.0 x.1 rest) (λ i. (sym t i, sym e i)) h
