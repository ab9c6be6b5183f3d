use Rattle.std.proofs.Common.{◌≡◌, ℕ, ◌+◌, ◌<◌, List, length, slice_index, true, not, eqb, inl, inr, sym, ◌∙◌, subst}
use Rattle.std.proofs.Common.{le_of_eq, arith}
use Rattle.std.proofs.lemmas.Bool.{cases_lt, eq-eqb, eqb-true, false≢true}
use Rattle.std.proofs.lemmas.Bool.Decides.{nat_tests}
use Rattle.std.proofs.lemmas.List.{get_or_past}
use Rattle.http_messages.specs.Feeds.{HasNoFeedFrom, IsNextFeed}
use Rattle.http_messages.specs.Head.{FollowsCr, HasPlainLines}
use Rattle.http_messages.proofs.head.has_plain_lines.Goals as goal

-- each LF before this index directly follows a CR
abbrev FollowUpTo : List ℕ → ℕ → Type 0
FollowUpTo block n = (k : ℕ) → k < n → slice_index block k ≡ 10 → FollowsCr block k

-- and so does the next one
follow-more : (block : List ℕ) (from at : ℕ) → FollowUpTo block from
    → IsNextFeed block from at → FollowsCr block at → FollowUpTo block (at + 1)
follow-more block from at before next here = λ k low feed. elim (cases_lt k from) [
  | inl past ↦ before k past feed
  | inr near ↦ elim (cases_lt k at) [
    | inl less ↦ absurd (next.first k near less feed)
    | inr far ↦ let same : at ≡ k = omega arith in subst (FollowsCr block) same here
  ]
]

-- where none follows, all do
follow-all : (block : List ℕ) (from : ℕ) → FollowUpTo block from → HasNoFeedFrom block from → (k : ℕ)
    → slice_index block k ≡ 10 → FollowsCr block k
follow-all block from before none k feed = elim (cases_lt k from) [
  | inl past ↦ before k past feed
  | inr near ↦ elim (cases_lt k (length block)) [
    | inl within ↦ absurd (none k near within feed)
    | inr beyond ↦ absurd (omega (arith, feed, get_or_past block k 0 beyond))
  ]
]

-- a test for a CR that fails
other-byte : (byte : ℕ) → ¬ (byte ≡ 13) → not (eqb byte 13) ≡ true
other-byte byte other = grind (arith, nat_tests, other)

pub feeds-init : goal.feeds-init
feeds-init c = λ k low. absurd (omega (arith, low))

pub feeds-preserved : goal.feeds-preserved
feeds-preserved c =
    follow-more c.args.block.now c.feeds.from c.in-Some.at c.feeds.invariant c.in-Some.ensures
    (c.follows_cr.ensures.0 c.if-not-follows_cr.false)

pub returns-then-not-follows_cr : goal.returns-then-not-follows_cr
returns-then-not-follows_cr c = (
  λ no. absurd (false≢true no),
  λ plain. sym c.if-not-follows_cr.true
      ∙ c.follows_cr.ensures.1 (plain.feeds c.in-Some.at c.in-Some.ensures.feed),
)

pub returns-then-is_empty : goal.returns-then-is_empty
returns-then-is_empty c =
    let block = c.args.block.now in
    let none = eqb-true (length block) 0 (sym c.if-is_empty.ensures) in
    let plain : HasPlainLines block = record {
      start = λ starts. omega (arith, starts, get_or_past block 0 0 (le_of_eq none));
      feeds = follow-all block c.feeds.from c.feeds.invariant c.in_default.ensures;
    } in
    (λ _. plain, λ _. c.if-is_empty.true)

pub returns-else-is_empty : goal.returns-else-is_empty
returns-else-is_empty c =
    let block = c.args.block.now in (
      λ other. record {
        start = λ starts. absurd (false≢true (rw (eq-eqb _ 13 starts) at other));
        feeds = follow-all block c.feeds.from c.feeds.invariant c.in_default.ensures;
      },
      λ plain. other-byte (slice_index block 0) plain.start,
    )
