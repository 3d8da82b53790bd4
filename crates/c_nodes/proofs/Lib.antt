mod HeightLemmas
mod Pushing
