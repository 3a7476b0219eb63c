-- Where a daughter is looked for: at place 0 where there is none, nowhere where nothing leads to the goal, or at the spots of what is asked.
use mathlib.Core.Path.{◌≡◌, sym, subst}
use mathlib.Core.List.{List}
use Prim.Native.Nat.{ℕ, ◌+◌, ◌<◌, ◌≤◌, ◌^◌}
use native.Mathlib.Omega.{arith}
use lib.ListN.{length, get_or}
use borrow.Author.Tests.{lt-ltb, le-ltb}
use Rattle.meaning.specs.Table.{category_of}
use Rattle.meaning.specs.Decode.{rule_at}
use Rattle.store.specs.Code.{known_of}
use Rattle.store.proofs.Laws.{mem-at}
use Rattle.phrase.specs.declared.items.Item.{Item as CodedItem}
use Rattle.phrase.specs.declared.items.Daughters.{Daughters}
use Rattle.phrase.specs.Phrase.{item_of}
use Rattle.hint.specs.Hint.{Open, Completes, Meets, Asks}
use Rattle.search.specs.declared.spots.Spots.{Spots}
use Rattle.search.specs.Spots.{Ordered}
use Rattle.search.specs.Tried.{coded, put, SpotsFor}
use Rattle.search.proofs.Choosing.{seat-meets, seat-category}
use Rattle.chosen.specs.declared.looking.Look.{Look}
use Rattle.chosen.specs.declared.quest.Quest.{Quest}
use Rattle.chosen.specs.Walk.{seats, taken, Leads, Seeks, Seated, Only, Looking, Onward}
use Rattle.chosen.proofs.Leading.{taken_in, back, seated-more}

pub seats-in : (d : Daughters) (k : ℕ) (K : List ℕ) → k < d.count → seats d k K ≡ length K
seats-in d k K l = rw (lt-ltb k d.count l)

pub seats-out : (d : Daughters) (k : ℕ) (K : List ℕ) → d.count ≤ k → seats d k K ≡ 1
seats-out d k K l = rw (le-ltb k d.count l)

-- the first n places
abbrev firsts : ℕ → Spots
firsts n = record { lo = 0; gap = n; resume = n; hi = n }

first-ordered : (s : Spots) (n : ℕ) → s ≡ firsts n → Ordered s
first-ordered s n e = subst Ordered (sym e) (record { one = omega arith; two = omega arith; three = omega arith })

module _ {t ws : List ℕ} {rule : ℕ} {goal : CodedItem} {d : Daughters} {k : ℕ} {K : List ℕ} (S : Seated t rule d k) where
  pub seek-none : (l : Look) → k < 3 → (Leads t ws rule goal d → ⊥) → Only d k 0 l → Seeks t ws rule goal d k K l
  seek-none l three n o = record {
    chosen = o.chosen;
    turn = o.turn;
    seated = S;
    ordered = first-ordered l.spots 0 o.spots;
    end = rw o.spots (omega arith);
    within = rw o.spots (omega arith);
    has = λ p h w. absurd (n (back d k (get_or K p 0) S.partial.few (S.free k (omega arith) three) w));
    asks = λ p h w. o.any (get_or K p 0);
  }

  pub seek-there : (l : Look) → l.chosen ≡ d → l.turn ≡ k → Looking K goal → k < d.count → Asks t ws rule d goal k l.wants
      → SpotsFor t rule k l.wants K l.spots → Seeks t ws rule goal d k K l
  seek-there l chosen turn L below A P = record {
    chosen = chosen;
    turn = turn;
    seated = S;
    ordered = P.ordered;
    end = P.end;
    within = rw (seats-in d k K below) P.end;
    has = λ p h w. let b = inside p h in P.has p b (seat-category d few k below free (get_or K p 0) (kind p b) (whole p w) w.does) (met p b w);
    asks = λ p h w. met p (inside p h) w;
  }
    where
      few : d.count ≤ 3
      few = S.partial.few

      free : Open d k
      free = S.free k (omega arith) (omega arith)

      inside : (p : ℕ) → p < seats d k K → p < length K
      inside p h = rw (seats-in d k K below) at h

      kind : (p : ℕ) → p < length K → 1 ≤ (known_of (get_or K p 0)).item.category
      kind p b = (L.codes (get_or K p 0) (mem-at K p b)).0

      whole : (p : ℕ) (w : Leads t ws rule goal (taken d k (get_or K p 0))) → Completes (put d k (coded (get_or K p 0))) w.full
      whole p w = subst (λ (e : Daughters). Completes e w.full) (taken_in d k (get_or K p 0) below) w.completes

      met : (p : ℕ) → p < length K → Leads t ws rule goal (taken d k (get_or K p 0)) → Meets l.wants (known_of (get_or K p 0))
      met p b w = seat-meets d few k below free (get_or K p 0) (kind p b) (whole p w) w.does l.wants A

-- a rule of another category gives nothing
pub other-kind : {t ws : List ℕ} {rule : ℕ} {goal : CodedItem} {d : Daughters} → (category_of t rule ≡ goal.category → ⊥) → Leads t ws rule goal d → ⊥
unfolding rule_at item_of
other-kind n w = n (sym w.does.gives.kind)

-- a place is taken
module _ {t ws : List ℕ} {rule : ℕ} {goal : CodedItem} {K : List ℕ} {l : Look} {place : ℕ} (L : Looking K goal) (O : Onward t ws rule goal K l place) where
  pub on-place : place < length K
  on-place = omega (arith, O.below, O.seeks.end)

  pub on-code : (1 ≤ (known_of (get_or K place 0)).item.category) × (get_or K place 0 < 2 ^ 60)
  on-code = L.codes (get_or K place 0) (mem-at K place on-place)

  pub on-seated : (next : ℕ) → next ≡ l.turn + 1 → l.turn < 3 → Seated t rule (taken l.chosen l.turn (get_or K place 0)) next
  on-seated next e h = seated-more t rule l.chosen l.turn (get_or K place 0) next e h on-code.0 O.seeks.seated

-- where it is not as asked, nothing leads from it to the goal
pub on_none : {t ws : List ℕ} {rule : ℕ} {goal : CodedItem} {K : List ℕ} {l : Look} {place : ℕ} (O : Onward t ws rule goal K l place)
    → (Meets l.wants (known_of (get_or K place 0)) → ⊥) → Leads t ws rule goal (taken l.chosen l.turn (get_or K place 0)) → ⊥
on_none {place = place} O n w = n (O.seeks.asks place (omega (arith, O.below, O.seeks.within)) w)

-- what is known of a quest
pub looking : (q : Quest) → Looking q.known.now q.goal
looking q = record { sorted = q.sorted; some = q.some; most = q.most; codes = q.codes; high = q.high; named = q.named }
