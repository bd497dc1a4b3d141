mod Laws
mod Rise
