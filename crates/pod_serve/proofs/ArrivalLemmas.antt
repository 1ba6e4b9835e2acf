-- The reads of a connection, one piece after the other.
use Rattle.std.proofs.Common.{◌≡◌, ℕ, ◌<◌, ◌≤◌, List, [], ◌∷◌, ◌++◌, length, sym, ap, subst, append_assoc, length-append, ◌∙◌, arith}
use Rattle.std.proofs.lemmas.List.{append-nil}
use Rattle.pod_io.specs.Counts.{next_count}
use Rattle.pod_serve.specs.Served.{ArePieces, IsReadIn, IsTakenUp, pieces_text}

more_taken : (few many : ℕ) → few ≤ many → (text : List ℕ) → IsTakenUp few text → IsTakenUp many text
more_taken few many le text t = record { events = t.events; rest = t.rest; messages = t.messages; stays = t.stays; answered = omega (arith, t.answered, le) }

more_pieces : (few many : ℕ) → few ≤ many → (text : List ℕ) (pieces : List (List ℕ)) → ArePieces few text pieces → ArePieces many text pieces
more_pieces few many le text [] a = tt
more_pieces few many le text (piece ∷ pieces) a = (more_taken few many le text a.0, a.1, more_pieces few many le (text ++ piece) pieces a.2)

one_piece_more : (count : ℕ) (text : List ℕ) (pieces : List (List ℕ)) (piece : List ℕ) → ArePieces count text pieces → IsTakenUp count (text ++ pieces_text pieces) → 0 < length piece → ArePieces count text (pieces ++ piece ∷ [])
one_piece_more count text [] piece a t some = (subst (IsTakenUp count) (append-nil text) t, some, tt)
one_piece_more count text (other ∷ pieces) piece a t some = (a.0, a.1, one_piece_more count (text ++ other) pieces piece a.2 (subst (IsTakenUp count) (sym (append_assoc text other (pieces_text pieces))) t) some)

text_more : (pieces : List (List ℕ)) (piece : List ℕ) → pieces_text (pieces ++ piece ∷ []) ≡ pieces_text pieces ++ piece
text_more [] piece = append-nil piece
text_more (other ∷ pieces) piece = ap (λ t. other ++ t) (text_more pieces piece) ∙ sym (append_assoc other (pieces_text pieces) piece)

module _ (count : ℕ) (read : List ℕ) (old mid new : ℕ) where
  -- no read was counted
  pub none_arrives : (ended : ℕ) → new ≡ mid → IsReadIn count ended read old mid → IsReadIn count ended read old new
  none_arrives ended same r = subst (IsReadIn count ended read old) (sym same) r

  module _ (r : IsReadIn count 0 read old mid) (is : new ≡ next_count mid) where
    -- a read gave a piece
    pub one_arrives : (piece : List ℕ) → IsTakenUp count read → 0 < length piece → IsReadIn count 0 (read ++ piece) old new
    one_arrives piece taken some = record {
      pieces = r.pieces ++ piece ∷ [];
      text = text_more r.pieces piece ∙ ap (λ t. t ++ piece) r.text;
      in_turn = one_piece_more count [] r.pieces piece r.in_turn (subst (IsTakenUp count) (sym r.text) taken) some;
      counted = λ below. omega (arith, r.counted (omega (arith, below, is)), is, below, length-append r.pieces (piece ∷ []));
    }

    -- a read found the end
    pub end_arrives : IsReadIn count 1 read old new
    end_arrives = record {
      pieces = r.pieces;
      text = r.text;
      in_turn = r.in_turn;
      counted = λ below. omega (arith, r.counted (omega (arith, below, is)), is, below);
    }

-- more requests were answered since
pub then_answered : (few many ended : ℕ) (read : List ℕ) (old new : ℕ) → few ≤ many → IsReadIn few ended read old new → IsReadIn many ended read old new
then_answered few many ended read old new le r = record {
  pieces = r.pieces;
  text = r.text;
  in_turn = more_pieces few many le [] r.pieces r.in_turn;
  counted = r.counted;
}
