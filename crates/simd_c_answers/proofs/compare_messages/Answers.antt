-- Each verdict has its numbers; a refusal writes none.
use mathlib.Core.Path.{refl, sym, ◌∙◌}
use Rattle.simd_c_answers.specs.Calls.{refusal_of, verdict_after, block_after}
use Rattle.simd_c_answers.proofs.compare_messages.Goals as goal

pub returns-in-Same : goal.returns-in-Same
unfolding refusal_of verdict_after block_after
returns-in-Same c = rw (sym c.compare-found.ensures ∙ c.in-Same.is) (record { value = refl; verdict_after = refl; block_after = refl })

pub returns-in-Apart : goal.returns-in-Apart
unfolding refusal_of verdict_after block_after
returns-in-Apart c = rw (sym c.compare-found.ensures ∙ c.in-Apart.is) (record { value = refl; verdict_after = refl; block_after = refl })

pub returns-in-Meet : goal.returns-in-Meet
unfolding refusal_of verdict_after block_after
returns-in-Meet c = rw (sym c.compare-found.ensures ∙ c.in-Meet.is) (record { value = refl; verdict_after = refl; block_after = refl })

pub returns-in-Refused : goal.returns-in-Refused
unfolding refusal_of verdict_after block_after
returns-in-Refused c = rw (sym c.compare-found.ensures ∙ c.in-Refused.is) (record { value = refl; verdict_after = refl; block_after = refl })
