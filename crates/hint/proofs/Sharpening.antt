-- More is asked, step by step, and what a way to run a row meets stays met.
use mathlib.Core.Path.{◌≡◌, refl, sym, ap, subst, ◌∙◌}
use mathlib.Core.Logic.{inl}
use mathlib.Core.List.{List}
use Prim.Native.Nat.{ℕ, suc, ◌+◌, ◌*◌, ◌-◌, ◌<◌}
use native.Mathlib.Omega.{arith}
use Rattle.meaning.specs.Range.{Range}
use Rattle.meaning.specs.Grammar.{Symbol}
use Rattle.meaning.specs.Giving.{Run, Stands}
use Rattle.meaning.specs.Table.{byte}
use Rattle.meaning.specs.Decode.{symbol_at, row_at, row_end}
use Rattle.meaning.proofs.Joining.{left}
use Rattle.meaning.proofs.Places.{row_is}
use Rattle.phrase.proofs.Joins.{run→fold}
use Rattle.phrase.specs.declared.items.Daughters.{Daughters}
use Rattle.hint.specs.declared.Place.{Place}
use Rattle.hint.specs.declared.Wants.{Wants}
use Rattle.hint.specs.declared.steps.Side.{Side}
use Rattle.hint.specs.declared.steps.Side.TheVariants.{Left, Right}
use Rattle.hint.specs.State.{index, SideAs, MovesOver, Sharper, PartAs, Ways}
use Rattle.phrase.proofs.Runs.{stands-proper}
use Rattle.hint.proofs.Chains.{nil, Walk, walks, asks, run-chain, fold-chain}

pub sharper-none : {P : (ℕ → Range) → Type 0} {w : Wants} → Sharper P w w
sharper-none = record { low = refl; high = refl; parts = λ f p m. m }

pub sharper-then : {P Q : (ℕ → Range) → Type 0} {w v u : Wants} → Sharper Q w v → ((f : ℕ → Range) → Q f → P f) → Sharper P v u → Sharper Q w u
sharper-then a g b = record { low = b.low ∙ a.low; high = b.high ∙ a.high; parts = λ f q m. b.parts f (g f q) (a.parts f q m) }

-- the symbols of a row that a walk from a side comes to: the one before m others
abbrev pub symbols : Side → List ℕ → ℕ → ℕ → Symbol
symbols Left t place m = symbol_at t (row_end t place - 3 * suc m)
symbols Right t place m = symbol_at t (place + 1 + 3 * m)

-- a loop over a row's symbols: what has been asked of the ways Q so far, and that each of them still has a walk over the n symbols that are left
pub record Pass (side : Side) (t ws : List ℕ) (place : ℕ) (d : Daughters) (k : ℕ) (Q : (ℕ → Range) → Type 0) (w : Wants) (n : ℕ) (s : Place) (r : Wants) : Type 0 where
  pub asked : Sharper Q w r
  pub walk : (f : ℕ → Range) → Q f → Walk side ws (symbols side t place) d k n s f

module _ (side : Side) (t ws : List ℕ) (place : ℕ) (d : Daughters) (k : ℕ) (s : Place) (w : Wants) where
  abbrev pub PassFrom : ℕ → Place → Wants → Type 0
  PassFrom n h r = Pass side t ws place d k (Ways ws d k (row_at t place) (SideAs side s)) w n h r

  -- the symbol that comes after i others
  at-symbol : (i m : ℕ) → i + suc m ≡ byte t place → symbols side t place m ≡ symbol_at t (place + 1 + 3 * index side i (byte t place))
  at-symbol = go side
    where
      go : (side : Side) (i m : ℕ) → i + suc m ≡ byte t place → symbols side t place m ≡ symbol_at t (place + 1 + 3 * index side i (byte t place))
      go Left i m e = ap (symbol_at t) (omega (arith, row_is t place))
      go Right i m e = ap (symbol_at t) (omega arith)

  pub pass-on : (i : ℕ) {h h' : Place} {r r' : Wants} {x : Symbol} → i < byte t place → x ≡ symbol_at t (place + 1 + 3 * index side i (byte t place))
      → MovesOver side ws d x h h' → Sharper (PartAs side k x h) r r' → PassFrom (byte t place - i) h r → PassFrom (byte t place - (i + 1)) h' r'
  pass-on i {h} {x = x} l here moves more p =
      let m : ℕ = byte t place - (i + 1) in
      let one : byte t place - i ≡ suc m = omega arith in
      let is : symbols side t place m ≡ x = at-symbol i m (omega arith) ∙ sym here in
      let left : (f : ℕ → Range) → Ways ws d k (row_at t place) (SideAs side s) f → Walk side ws (symbols side t place) d k (suc m) h f =
      λ f q. subst (λ (n : ℕ). Walk side ws (symbols side t place) d k n h f) one (p.walk f q) in
      record {
        asked = sharper-then p.asked (λ f q c z. asks side (is ∙ z) (left f q)) more;
        walk = λ f q. walks side (λ e p kn st. moves e p kn (subst (λ (x : Symbol). Stands ws e x p) is st)) (left f q);
      }

  pub pass-first : {n : ℕ} → n ≡ byte t place → PassFrom n s w
  unfolding row_at
  pass-first {n} e = record { asked = sharper-none; walk = λ f q. go side f q }
    where
      go : (side : Side) (f : ℕ → Range) → Ways ws d k (row_at t place) (SideAs side s) f → Walk side ws (symbols side t place) d k n s f
      go Left f q = record {
        parts = q.parts;
        knows = q.knows;
        these = q.these;
        range = q.range;
        chain = rw e (run-chain t (byte t place) (place + 1) (row_end t place) (sym (row_is t place)) q.run);
        fits = q.fits;
      }
      go Right f q = record {
        parts = q.parts;
        knows = q.knows;
        these = q.these;
        range = q.range;
        chain =
            let fold = run→fold (stands-proper ws q.parts) (inl refl) q.run (left refl refl) in
            rw e (fold-chain t (byte t place) 0 (byte t place) (place + 1) (place + 1) (omega arith) (omega arith) fold (nil refl));
        fits = q.fits;
      }

-- the ways to run a row, by its symbols and what is known of its range
pub ways-as : {ws : List ℕ} {d : Daughters} {k : ℕ} {ss ss' : List Symbol} {P Q : Range → Type 0} → ss ≡ ss' → ((r : Range) → P r → Q r) → (f : ℕ → Range) → Ways ws d k ss P f → Ways ws d k ss' Q f
ways-as {ws} e g f y = record {
  parts = y.parts;
  knows = y.knows;
  these = y.these;
  range = y.range;
  run = subst (λ (ss : List Symbol). Run (Stands ws y.parts) ss y.range) e y.run;
  fits = g y.range y.fits;
}
