-- Laws of a link through calls of a wire over it, one after another.
use Rattle.std.proofs.Common.{◌≡◌, ℕ, List, [], ◌++◌, Option, Some, None, refl, sym, ap, ◌∙◌}
use Rattle.std.proofs.Common.{arith, append_assoc}
use Rattle.std.specs.Option.{option_map}
use Rattle.std.proofs.lemmas.List.{append-nil}
use Rattle.pod_io.specs.declared.link.LinkCounts.{LinkCounts}
use Rattle.socket_wire.specs.Passing.{PassesLink}

pub none_read : (rest : Option (List ℕ)) → rest ≡ option_map (λ (r : List ℕ). [] ++ r) rest
none_read None = refl
none_read (Some r) = refl

pub none_sent : (sent : Option (List ℕ)) → sent ≡ option_map (λ (s : List ℕ). s ++ []) sent
none_sent None = refl
none_sent (Some s) = ap (λ (t : List ℕ). Some t) (sym (append-nil s))

read_more : (read more : List ℕ) (a b c : Option (List ℕ)) → a ≡ option_map (λ (r : List ℕ). read ++ r) b → b ≡ option_map (λ (r : List ℕ). more ++ r) c → a ≡ option_map (λ (r : List ℕ). (read ++ more) ++ r) c
read_more read more a b None p q = p ∙ ap (λ (o : Option (List ℕ)). option_map (λ (r : List ℕ). read ++ r) o) q
read_more read more a b (Some r) p q =
    p ∙ ap (λ (o : Option (List ℕ)). option_map (λ (r : List ℕ). read ++ r) o) q
    ∙ ap (λ (t : List ℕ). Some t) (sym (append_assoc read more r))

send_more : (wrote more : List ℕ) (a b c : Option (List ℕ)) → b ≡ option_map (λ (s : List ℕ). s ++ wrote) a → c ≡ option_map (λ (s : List ℕ). s ++ more) b → c ≡ option_map (λ (s : List ℕ). s ++ (wrote ++ more)) a
send_more wrote more None b c p q = q ∙ ap (λ (o : Option (List ℕ)). option_map (λ (s : List ℕ). s ++ more) o) p
send_more wrote more (Some s) b c p q =
    q ∙ ap (λ (o : Option (List ℕ)). option_map (λ (s : List ℕ). s ++ more) o) p
    ∙ ap (λ (t : List ℕ). Some t) (append_assoc s wrote more)

pub passes_still : (rest sent : Option (List ℕ)) (k : LinkCounts) → PassesLink rest rest sent sent k k
passes_still rest sent k = record {
  read = [];
  wrote = [];
  reads = none_read rest;
  writes = none_sent sent;
  read_faults = omega arith;
  write_faults = omega arith;
  ends = omega arith;
}

pub passes_joins : (r s t a b c : Option (List ℕ)) (k l m : LinkCounts) → PassesLink r s a b k l → PassesLink s t b c l m → PassesLink r t a c k m
passes_joins r s t a b c k l m p q = record {
  read = p.read ++ q.read;
  wrote = p.wrote ++ q.wrote;
  reads = read_more p.read q.read r s t p.reads q.reads;
  writes = send_more p.wrote q.wrote a b c p.writes q.writes;
  read_faults = omega (arith, p.read_faults, q.read_faults);
  write_faults = omega (arith, p.write_faults, q.write_faults);
  ends = omega (arith, p.ends, q.ends);
}
