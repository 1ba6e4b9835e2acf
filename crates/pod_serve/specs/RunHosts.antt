-- What a run of `podd` is over: its disks, its clock, its links and its gates as contracts see
-- them, its listener, and its error sink.
use Rattle.std.specs.Prelude.{ℕ, List, Option}
use Rattle.pod_io.specs.declared.link.LinkCounts.{LinkCounts}
use Rattle.pod_serve.specs.Desks.{GateView, gate_view_of}
use Rattle.pod_serve.specs.Served.{LinkView, link_view_of}

-- What the traits `Disk`, `Clock`, `Link` and `Gate` say of the disks of a run, of its clock, and
-- of the connections and gates of its listener.
pub record Host (D G C : Type 0) : Type 1 where
  pub image : D → List ℕ → Type 0
  pub moment : D → ℕ
  pub left_since : D → ℕ → List ℕ → Type 0
  pub faults : D → ℕ
  pub may_give : ℕ → Type 0
  pub link_view : C → LinkView
  pub gate_view : G → GateView C

abbrev pub host_of : {D G C : Type 0} → (D → List ℕ → Type 0) → (D → ℕ)
    → (D → ℕ → List ℕ → Type 0) → (D → ℕ) → (ℕ → Type 0) → (C → Option (List ℕ))
    → (C → Option (List ℕ)) → (C → LinkCounts) → (G → Option (List C)) → (G → Option (List C))
    → (G → ℕ) → (G → ℕ) → (G → ℕ) → Host D G C
host_of image moment left_since faults may_give rest sent counts conns back gate_faults given ends =
    record {
      image = image;
      moment = moment;
      left_since = left_since;
      faults = faults;
      may_give = may_give;
      link_view = link_view_of rest sent counts;
      gate_view = gate_view_of conns back gate_faults given ends;
    }

-- What the listener shows: the gates that were given back, where it shows them, and how many calls
-- failed.
pub record ListenView (G : Type 0) : Type 0 where
  pub back : Option (List G)
  pub faults : ℕ

abbrev pub listen_view_of : {L G : Type 0} → (L → Option (List G)) → (L → ℕ) → L → ListenView G
listen_view_of back faults listen = record { back = back listen; faults = faults listen }

-- The listener before a run and after it, the gates that it may open, and how many openings of
-- readers had been refused then (`Places` of `published_view`).
pub record ListenRun (G : Type 0) : Type 1 where
  pub may_open : List G → Type 0
  pub old : ListenView G
  pub new : ListenView G
  pub old_places : ℕ
  pub new_places : ℕ

abbrev pub listen_run : {G : Type 0} → (List G → Type 0) → ListenView G → ListenView G → ℕ → ℕ
    → ListenRun G
listen_run may_open old new old_places new_places = record {
  may_open = may_open;
  old = old;
  new = new;
  old_places = old_places;
  new_places = new_places;
}

-- that of a listener and of the counter of refused openings
abbrev pub listener_of : {L G : Type 0} → (L → List G → Type 0) → (L → Option (List G)) → (L → ℕ)
    → L → L → ℕ → ℕ → ListenRun G
listener_of may_open back faults listen listen_new places places_new =
    listen_run (may_open listen) (listen_view_of back faults listen)
    (listen_view_of back faults listen_new) places places_new

-- the error sink before a run and after it, and its counts of faults
pub record ErrorSink : Type 0 where
  pub old : Option (List ℕ)
  pub new : Option (List ℕ)
  pub old_faults : ℕ
  pub new_faults : ℕ

abbrev pub errors_of : {E : Type 0} → (E → Option (List ℕ)) → (E → ℕ) → E → E → ErrorSink
errors_of taken faults errors errors_new = record {
  old = taken errors;
  new = taken errors_new;
  old_faults = faults errors;
  new_faults = faults errors_new;
}
