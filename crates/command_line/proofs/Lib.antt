mod Reading
mod ValueLemmas
